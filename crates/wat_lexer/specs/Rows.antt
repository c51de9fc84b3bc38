-- Example texts, and their tokens with offsets in bytes.
use Rattle.std.specs.Prelude.{neg_ℤ, ◌≡◌, ℕ, List, [], ◌∷◌, codes, ◌++◌, true, false, Some, None, pos}
use Rattle.wat_lexer.specs.Prelude.{Token, LParen, RParen, Keyword, Id, Annotation, Integer, String, Reserved, Placed, IsCut, FirstFault, unsigned_value, signed_value, hidden_count, visible_tokens}
use Rattle.wat_lexer.specs.declared.fault.Fault.TheVariants.{LexChar, LexString, LexComment, LexAnnotation}

abbrev pub at : ℕ → Token → Placed
at n t = record { token = t; offset = n }

-- a line comment with a `(`, and a block comment with a nested comment and a quote
abbrev pub Comments : Type 0
Comments =
    IsCut (codes "(a ;;b(\n(;(;;)\";)c)")
    (at 0 LParen ∷ at 1 (Keyword (codes "a")) ∷ at 17 (Keyword (codes "c")) ∷ at 18 RParen ∷ [])

-- a string with the escapes of a tab, the letter A and U+1F600 (F0 9F 98 80 in UTF-8), and a string
-- without escapes
abbrev pub Strings : Type 0
Strings =
    IsCut (codes "\"a\\t\\41\\u{1_f600}\" \"b c\"")
    (at 0 (String (codes "a\tA" ++ (0xf0 ∷ 0x9f ∷ 0x98 ∷ 0x80 ∷ [])))
    ∷ at 19 (String (codes "b c")) ∷ [])

-- `$x $"a b" (@"n" c)`
abbrev pub QuotedNames : Type 0
QuotedNames =
    IsCut (codes "$x $\"a b\" (@\"n\" c)")
    (at 0 (Id (codes "x")) ∷ at 3 (Id (codes "a b")) ∷ at 10 LParen
    ∷ at 11 (Annotation (codes "n")) ∷ at 16 (Keyword (codes "c")) ∷ at 17 RParen ∷ [])

-- `( @n $ "a"b)`: the `@` isn't directly after the `(`, no name is after the `$`, and a letter is
-- directly after the string
abbrev pub Spoiled : Type 0
Spoiled =
    IsCut (codes "( @n $ \"a\"b)")
    (at 0 LParen ∷ at 2 (Reserved (codes "@n")) ∷ at 5 (Reserved (codes "$"))
    ∷ at 7 (Reserved (codes "\"a\"b")) ∷ at 11 RParen ∷ [])

-- each `_` must be between two digits
abbrev pub Integers : Type 0
Integers =
    IsCut (codes "1_000 -0x1_F +7 1__0 _1 1_")
    (at 0 (Integer (codes "1_000")) ∷ at 6 (Integer (codes "-0x1_F"))
    ∷ at 13 (Integer (codes "+7")) ∷ at 16 (Reserved (codes "1__0"))
    ∷ at 21 (Reserved (codes "_1")) ∷ at 24 (Reserved (codes "1_")) ∷ [])

-- values in 8 bits
abbrev pub Values : Type 0
Values =
    (unsigned_value 8 (codes "0x1_F") ≡ Some 31) × (unsigned_value 8 (codes "+255") ≡ Some 255)
    × (unsigned_value 8 (codes "256") ≡ None) × (unsigned_value 8 (codes "-0") ≡ None)
    × (signed_value 8 (codes "-0x80") ≡ Some (neg_ℤ (pos 128)))
    × (signed_value 8 (codes "255") ≡ Some (neg_ℤ (pos 1))) × (signed_value 8 (codes "-129") ≡ None)

-- `(@custom (a)) b`
abbrev custom_group : List Token
custom_group =
    LParen ∷ Annotation (codes "custom") ∷ LParen ∷ Keyword (codes "a") ∷ RParen ∷ RParen
    ∷ Keyword (codes "b") ∷ []

-- `(@x) (@custom (a)) b`
abbrev two_groups : List Token
two_groups = LParen ∷ Annotation (codes "x") ∷ RParen ∷ custom_group

-- the group of `@custom` is hidden if the five names aren't known; the group of `@x` always is
abbrev pub HiddenGroups : Type 0
HiddenGroups =
    (hidden_count false custom_group ≡ 6)
    × (visible_tokens false custom_group ≡ Keyword (codes "b") ∷ [])
    × (hidden_count true custom_group ≡ 0) × (visible_tokens true custom_group ≡ custom_group)
    × (hidden_count false two_groups ≡ 9)
    × (visible_tokens false two_groups ≡ Keyword (codes "b") ∷ [])
    × (hidden_count true two_groups ≡ 3) × (visible_tokens true two_groups ≡ custom_group)

-- `a{`, `a "b\q"` and `a (;(;;)`
abbrev pub Faults : Type 0
Faults =
    FirstFault (codes "a{") LexChar 1 × FirstFault (codes "a \"b\\q\"") LexString 2
    × FirstFault (codes "a (;(;;)") LexComment 2

-- `((@a b)(@c (d)`: the second group with an annotation isn't closed
abbrev pub UnclosedGroup : Type 0
UnclosedGroup = FirstFault (codes "((@a b)(@c (d)") LexAnnotation 7
