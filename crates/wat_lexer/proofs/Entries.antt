-- Stored tokens, as lookups see them.
use Rattle.std.proofs.Common.{◌≡◌, ℕ, zero, suc, ◌+◌, ◌<◌, ◌≤◌, List, [], ◌∷◌, ◌++◌, length, refl, ap, sym, subst, ◌∙◌, append-nil, ◌-◌, arith, drop, ◌≢◌, Bool, true, false, ◌||◌}
use Rattle.std.proofs.Math.Bool.{or_assoc, or-false, or-true}
use Rattle.std.proofs.lemmas.List.{get_or_append_left, get_or_default, get_or-set_same}
use Rattle.std.proofs.lemmas.List.Elements.{All-get_or, All-from_recursion}
use Rattle.wat_lexer.specs.Laws.Prelude.{get_or, length-append, AllByRecursion, set, drop_of_length-le, get_or-append_seam, get_or-map, map-append, get_or-set_other, Entry, Placed, Token, Annotation, is_annotation, has_annotation, drop_more}
use Rattle.wat_lexer.specs.View.{is_paren, lying, is_annotation_kind, no_skips, own_number, AllApart, AllCanBeRead, found_tok, entry_of, entries_of, entry_tok, skip_in_front, skipping, no_entry, is_word, HasSkips, no_side_entry, lies_from, stands_at, skips_of, lying_skips, number_of, wide, Apart, tok_at, Readable, lies, last_in_side_table, CanBeRead, WasKept, PutInSideTable, FoundFits}
use Rattle.wat_lexer.specs.declared.lexeme.Kind.{Kind}
use Rattle.wat_lexer.specs.declared.lexeme.Skips.{Skips}
use Rattle.wat_lexer.specs.declared.lexeme.Lexeme.{Lexeme}
use Rattle.wat_lexer.specs.declared.lexeme.Kind.TheVariants as kinds

-- SKIPS ARE STORED

annotation_skips : (kind : Kind) (a : Skips) → is_annotation_kind kind ≡ true → skips_of kind a ≡ a
annotation_skips kinds.Annotation a is = refl
annotation_skips _ a is = cc

skips_at : (kind : Kind) (a b : Skips) → (is_annotation_kind kind ≡ true → a ≡ b) → skips_of kind a ≡ skips_of kind b
skips_at kinds.Annotation a b h = h refl
skips_at _ a b h = refl

-- the skips of an annotation are stored at its number
told_here : (text : List ℕ) (side_table : List Placed) (told : List Skips) (skips : Skips) (x : Lexeme) → is_annotation_kind x.kind ≡ true → own_number x < length told → entry_of text side_table (set told (own_number x) skips) x ≡ record (entry_of text side_table told x) { skips = skips }
told_here text side_table told skips x is lt =
    let n = own_number x in
    let here : skips_of x.kind (lying_skips (set told n skips) n) ≡ skips = annotation_skips x.kind (lying_skips (set told n skips) n) is ∙ get_or-set_same told n skips no_skips lt in
    λ i. record (entry_of text side_table told x) { skips = here i }

-- the skips of other tokens stay
told_elsewhere : (text : List ℕ) (side_table : List Placed) (told : List Skips) (n : ℕ) (skips : Skips) (x : Lexeme) → (is_annotation_kind x.kind ≡ true → own_number x ≢ n) → entry_of text side_table (set told n skips) x ≡ entry_of text side_table told x
told_elsewhere text side_table told n skips x other =
    let m = own_number x in
    let here : skips_of x.kind (lying_skips (set told n skips) m) ≡ skips_of x.kind (lying_skips told m) = skips_at x.kind _ _ (λ is. get_or-set_other told n m skips no_skips (other is)) in
    λ i. record (entry_of text side_table told x) { skips = here i }

all_elsewhere : (text : List ℕ) (side_table : List Placed) (told : List Skips) (skips : Skips) (x : Lexeme) (ls : List Lexeme) → is_annotation_kind x.kind ≡ true → AllByRecursion (Apart x) ls → entries_of text side_table (set told (own_number x) skips) ls ≡ entries_of text side_table told ls
all_elsewhere text side_table told skips x [] is apart = refl
all_elsewhere text side_table told skips x (y ∷ ls) is (here, apart) =
    let first = told_elsewhere text side_table told (own_number x) skips y (λ too same. here is too (sym same)) in
    let rest = all_elsewhere text side_table told skips x ls is apart in
    λ i. first i ∷ rest i

apart_there : (x : Lexeme) (ls : List Lexeme) (i : ℕ) (d : Lexeme) → i < length ls → AllByRecursion (Apart x) ls → Apart x (get_or ls i d)
apart_there x ls i d lt apart = All-get_or (Apart x) ls i d lt (All-from_recursion (Apart x) ls apart)

pub skips_told : (text : List ℕ) (side_table : List Placed) (told : List Skips) (ls : List Lexeme) (i : ℕ) (skips : Skips) (x d : Lexeme) → i < length ls → get_or ls i d ≡ x → AllApart ls → is_annotation_kind x.kind ≡ true → own_number x < length told
    → entries_of text side_table (set told (own_number x) skips) ls ≡ set (entries_of text side_table told ls) i (skipping (entries_of text side_table told ls) i skips)
skips_told text side_table told [] i skips x d lt e apart is within = absurd (omega arith)
skips_told text side_table told (y ∷ ls) zero skips x d lt e (here, apart) is within =
    rw e (let first = told_here text side_table told skips x is within in
    let rest = all_elsewhere text side_table told skips x ls is (rw e at here) in
    λ i. first i ∷ rest i)
skips_told text side_table told (y ∷ ls) (suc i) skips x d lt e (here, apart) is within =
    let other : Apart y x = rw e at (apart_there y ls i d (omega arith) here) in
    let first = told_elsewhere text side_table told (own_number x) skips y (λ too. other too is) in
    let rest = skips_told text side_table told ls i skips x d (omega arith) e apart is within in
    λ i. first i ∷ rest i

-- if all stored skips are zero, the entries are the same as without a list of skips
pub untold : (text : List ℕ) (side_table : List Placed) (told : List Skips) (ls : List Lexeme) → ((i : ℕ) → lying_skips told i ≡ no_skips) → entries_of text side_table told ls ≡ entries_of text side_table [] ls
untold text side_table told [] none = refl
untold text side_table told (x ∷ ls) none =
    let here : skips_of x.kind (lying_skips told (own_number x)) ≡ skips_of x.kind no_skips = ap (skips_of x.kind) (none (own_number x)) in
    let rest = untold text side_table told ls none in
    λ i. record (entry_of text side_table [] x) { skips = here i } ∷ rest i

-- at most one token is put into the side table at once
pub put_few : (kind : Kind) (old new : List Placed) → PutInSideTable kind old new → length new ≤ length old + 1
put_few kinds.Annotation old new (t, e) = omega (arith, ap length e, length-append old (t ∷ []))
put_few kinds.InSideTable old new (t, e) = omega (arith, ap length e, length-append old (t ∷ []))
put_few _ old new e = omega (arith, ap length e)

-- a token that is an annotation has the kind of an annotation
annotation_kind : (kind : Kind) (text : List ℕ) (from end : ℕ) (P : Type 0) (other : Token) → Readable kind text from end P other → is_annotation (tok_at kind text from end other) ≡ true → is_annotation_kind kind ≡ true
annotation_kind kinds.Annotation text from end P other h e = refl
annotation_kind kinds.InSideTable text from end P other h e = absurd (let f : true ≡ false = sym e ∙ h.1 in cc)
annotation_kind _ text from end P other h e = cc

-- a token with the kind of an annotation is in the side table
annotation_lies : (kind : Kind) (text : List ℕ) (from end : ℕ) {P : Type 0} (other : Token) → Readable kind text from end P other → is_annotation_kind kind ≡ true → P × (is_annotation other ≡ true)
annotation_lies kinds.Annotation text from end other h is = h
annotation_lies _ text from end other h is = cc

any_there : (side_table : List Placed) (i : ℕ) → i < length side_table → is_annotation (lies side_table i) ≡ true → has_annotation (lying side_table) ≡ true
any_there [] i lt e = absurd (omega arith)
any_there (x ∷ side_table) zero lt e = rw e
any_there (x ∷ side_table) (suc i) lt e = rw (any_there side_table i (omega arith) e) (or-true (is_annotation (x.token)))

annotation_wide : (kind : Kind) (low size : ℕ) → is_annotation_kind kind ≡ true → wide low size ≡ number_of kind low size
annotation_wide kinds.Annotation low size is = refl
annotation_wide _ low size is = cc

pub annotation_number : (x : Lexeme) → is_annotation_kind x.kind ≡ true → wide x.low x.size ≡ own_number x
annotation_number x is = annotation_wide x.kind x.low x.size is

readable_there : (text : List ℕ) (side_table : List Placed) (ls : List Lexeme) (i : ℕ) (x d : Lexeme) → i < length ls → get_or ls i d ≡ x → AllCanBeRead text side_table ls → CanBeRead text side_table x
readable_there text side_table ls i x d lt e all = subst (CanBeRead text side_table) e (All-get_or (CanBeRead text side_table) ls i d lt (All-from_recursion (CanBeRead text side_table) ls all))

-- there is room for the skips of an annotation
pub annotation_room : (text : List ℕ) (side_table : List Placed) (told : List Skips) (ls : List Lexeme) (i : ℕ) (x d : Lexeme) → i < length ls → get_or ls i d ≡ x → AllCanBeRead text side_table ls → HasSkips side_table told → is_annotation_kind x.kind ≡ true → own_number x < length told
annotation_room text side_table told ls i x d lt e all room is =
    let n = own_number x in
    let (there, note) = annotation_lies x.kind text n (n + x.size) (lies side_table n) (readable_there text side_table ls i x d lt e all) is in
    omega (arith, there.0, room (any_there side_table n there.0 note))

pub annotation_there : (text : List ℕ) (side_table : List Placed) (told : List Skips) (ls : List Lexeme) (i : ℕ) (x d : Lexeme) → i < length ls → get_or ls i d ≡ x → AllCanBeRead text side_table ls → is_annotation (entry_tok (get_or (entries_of text side_table told ls) i no_entry)) ≡ true → is_annotation_kind x.kind ≡ true
annotation_there text side_table told ls i x d lt e all is =
    let n = own_number x in
    let here : get_or (entries_of text side_table told ls) i no_entry ≡ entry_of text side_table told x = rw (get_or-map (entry_of text side_table told) ls i d no_entry lt, e) in
    annotation_kind x.kind text n (n + x.size) _ (lies side_table n) (readable_there text side_table ls i x d lt e all) (rw here at is)

-- the skips of an annotation's entry are stored at its number
pub annotation_told : (text : List ℕ) (side_table : List Placed) (told : List Skips) (ls : List Lexeme) (i n : ℕ) (skips : Skips) (x d : Lexeme) → i < length ls → get_or ls i d ≡ x → is_annotation_kind x.kind ≡ true → n ≡ own_number x → n < length told → skips ≡ get_or told n skips → skips ≡ (get_or (entries_of text side_table told ls) i no_entry).skips
annotation_told text side_table told ls i n skips x d lt e is number room here =
    let there : get_or (entries_of text side_table told ls) i no_entry ≡ entry_of text side_table told x = rw (get_or-map (entry_of text side_table told) ls i d no_entry lt, e) in
    here ∙ get_or_default told n skips no_skips room ∙ ap (lying_skips told) number ∙ sym (annotation_skips x.kind (lying_skips told (own_number x)) is) ∙ ap (λ (a : Entry). a.skips) (sym there)

-- if fewer than two tokens are left, the skip is 0
pub skip_few : (known : Bool) (ls : List Entry) → length ls ≤ 1 → skip_in_front known ls ≡ 0
skip_few known [] h = refl
skip_few known (x ∷ []) h = refl
skip_few known (x ∷ y ∷ ls) h = absurd (omega arith)

-- STORED TOKENS STAY

-- the token that a kind reads from the side table, if the item there is the same
still : (kind : Kind) (text : List ℕ) (from end own : ℕ) {P Q : Type 0} (s t : Token) (i j : ℕ) → (P → Q × (s ≡ t) × (i ≡ j)) → Readable kind text from end P t
    → Readable kind text from end Q s × (tok_at kind text from end s ≡ tok_at kind text from end t) × (stands_at kind own i ≡ stands_at kind own j)
still kinds.Annotation text from end own s t i j more (h, note) = let (there, same, place) = more h in ((there, rw same note), same, place)
still kinds.InSideTable text from end own s t i j more (h, none) = let (there, same, place) = more h in ((there, rw same none), same, place)
still _ text from end own s t i j more h = (h, refl, refl)

still_fits : (text : List ℕ) (old m : List Placed) (x : Lexeme) → CanBeRead text old x → CanBeRead text (old ++ m) x × (entry_of text (old ++ m) [] x ≡ entry_of text old [] x)
still_fits text old m x h =
    let n = own_number x in
    let (fits, token, place) = still x.kind text n (n + x.size) n (lies (old ++ m) n) (lies old n) (lies_from (old ++ m) n) (lies_from old n) (λ (lt, none).
    let same : get_or (old ++ m) n no_side_entry ≡ get_or old n no_side_entry = get_or_append_left old m no_side_entry n lt in
    let token : lies (old ++ m) n ≡ lies old n = ap (λ (a : Placed). a.token) same in
    ((omega (arith, length-append old m), rw token none), token, ap (λ (a : Placed). a.offset) same)) h
    in (fits, λ i. record { token = token i; offset = place i; skips = skips_of x.kind no_skips })

pub still_all : (text : List ℕ) (old m : List Placed) (ls : List Lexeme) → AllCanBeRead text old ls → AllCanBeRead text (old ++ m) ls × (entries_of text (old ++ m) [] ls ≡ entries_of text old [] ls)
still_all text old m [] h = (tt, refl)
still_all text old m (x ∷ ls) (h, t) =
    let (first, kept) = still_fits text old m x h in
    let (fit, same) = still_all text old m ls t in
    ((first, fit), (λ i. kept i ∷ same i))

all_push : (P : Lexeme → Type 0) (ls : List Lexeme) (x : Lexeme) → AllByRecursion P ls → P x → AllByRecursion P (ls ++ x ∷ [])
all_push P [] x h f = (f, tt)
all_push P (y ∷ ls) x (h, t) f = (h, all_push P ls x t f)

annotation_within : (text : List ℕ) (side_table : List Placed) (low size : ℕ) (kind : Kind) → is_annotation_kind kind ≡ true → CanBeRead text side_table (record { low = low; size = size; kind = kind }) → own_number (record { low = low; size = size; kind = kind }) < length side_table
annotation_within text side_table low size kinds.Annotation is h = h.0.0
annotation_within text side_table low size _ is h = cc

-- an annotation after the end of the old side table is apart from all others
apart_behind : (text : List ℕ) (old : List Placed) (ls : List Lexeme) (x : Lexeme) → AllCanBeRead text old ls → (is_annotation_kind x.kind ≡ true → length old ≤ own_number x) → AllByRecursion (λ y. Apart y x) ls
apart_behind text old [] x h far = tt
apart_behind text old (y ∷ ls) x (h, t) far = (λ is too. let lt = annotation_within text old y.low y.size y.kind is h in let le = far too in λ same. absurd (omega (arith, same)), apart_behind text old ls x t far)

apart_more : (ls : List Lexeme) (x : Lexeme) → AllApart ls → AllByRecursion (λ y. Apart y x) ls → AllApart (ls ++ x ∷ [])
apart_more [] x all behind = (tt, tt)
apart_more (y ∷ ls) x (here, all) (last, behind) = (all_push (Apart y) ls x here last, apart_more ls x all behind)

-- one more token is stored
pub record KeptMore (text : List ℕ) (old new : List Placed) (ls more : List Lexeme) (e : Entry) : Type 0 where
  pub fit : AllCanBeRead text new more
  pub apart : AllApart more
  pub entries : entries_of text new [] more ≡ entries_of text old [] ls ++ e ∷ []

put_more : (kind : Kind) (old new : List Placed) → PutInSideTable kind old new → (m : List Placed) × (new ≡ old ++ m) × (is_annotation_kind kind ≡ true → length m ≡ 1)
put_more kinds.Annotation old new (t, e) = (t ∷ [], e, λ _. refl)
put_more kinds.InSideTable old new (t, e) = (t ∷ [], e, λ _. refl)
put_more _ old new e = ([], e ∙ sym (append-nil old), λ h. cc)

pub kept_more : {text : List ℕ} {old new : List Placed} {ls more : List Lexeme} {at end : ℕ} {kind : Kind} {x : Lexeme} → AllCanBeRead text old ls → AllApart ls → PutInSideTable kind old new → WasKept text new at end kind x → more ≡ ls ++ x ∷ []
    → KeptMore text old new ls more (record { token = found_tok text new at end kind; offset = at; skips = no_skips })
kept_more {text} {old} {new} {ls} {more} {at} {end} {kind} {x} all apart put kept is =
    let (m, longer, one) = put_more kind old new put in
    let far : is_annotation_kind x.kind ≡ true → length old ≤ own_number x = λ note. (let (here, last) = kept.last note in let single = one here in omega (arith, ap length longer, length-append old m)) in
    let (fit, same) = still_all text old m ls all in
    let e : Entry = record { token = found_tok text new at end kind; offset = at; skips = no_skips } in
    record {
      fit = rw is (all_push (CanBeRead text new) ls x (rw longer fit) kept.fits);
      apart = rw is (apart_more ls x apart (apart_behind text old ls x all far));
      entries = rw (is, map-append (entry_of text new []) ls (x ∷ []), kept.entry) (ap (λ l. l ++ e ∷ []) (rw longer same));
    }

-- FOUND TOKENS

-- the last item of the side table is the token that was put there
pub last_put : (old new : List Placed) (t : Placed) → new ≡ old ++ t ∷ [] → (0 < length new) × (last_in_side_table new ≡ t.token) × (lies_from new (length new - 1) ≡ t.offset)
last_put old new t e =
    let longer : length new ≡ length old + 1 = omega (arith, ap length e, length-append old (t ∷ [])) in
    let place : length new - 1 ≡ length old = omega arith in
    let here : get_or new (length new - 1) no_side_entry ≡ t = rw (place, e, get_or-append_seam) in
    (omega arith, ap (λ (a : Placed). a.token) here, ap (λ (a : Placed). a.offset) here)

-- with one more token, the list has an annotation if the token is an annotation or the list had any
pub has_more : (ts : List Token) (t : Token) → has_annotation (ts ++ t ∷ []) ≡ has_annotation ts || is_annotation t
has_more [] t = or-false (is_annotation t)
has_more (x ∷ ts) t = rw (has_more ts t, or_assoc)

lying_more : (old new : List Placed) (t : Placed) → new ≡ old ++ t ∷ [] → has_annotation (lying new) ≡ has_annotation (lying old) || is_annotation (last_in_side_table new)
lying_more old new t e = rw ((last_put old new t e).1, e, map-append (λ (a : Placed). a.token) old (t ∷ [])) (has_more (lying old) (t.token))

-- only a token in the side table can be an annotation
pub any_put : (kind : Kind) (text : List ℕ) (old new : List Placed) (at end : ℕ) → PutInSideTable kind old new → has_annotation (lying new) ≡ has_annotation (lying old) || is_annotation (found_tok text new at end kind)
any_put kinds.Annotation text old new at end (t, e) = lying_more old new t e
any_put kinds.InSideTable text old new at end (t, e) = lying_more old new t e
any_put _ text old new at end e = rw e (sym (or-false (has_annotation (lying old))))

pub any_step : (s : List Placed) (i : ℕ) (d : Placed) → i < length s → has_annotation (lying (drop i s)) ≡ is_annotation (get_or s i d).token || has_annotation (lying (drop (i + 1) s))
any_step s i d lt = rw (drop_more s i d lt)

pub any_over : (s : List Placed) (i : ℕ) → length s ≤ i → has_annotation (lying (drop i s)) ≡ false
any_over s i le = rw (drop_of_length-le s le)

pub ruleset annotation_steps = (any_step, any_over)

-- a token that is read from the text isn't put into the side table
pub plain_found : (kind : Kind) (text : List ℕ) (side_table : List Placed) (at end : ℕ) (P : Type 0) (n : List ℕ) (t : Token) → is_annotation_kind kind ≡ false → Readable kind text at end P (Annotation n) → tok_at kind text at end (Annotation n) ≡ t → (t ≡ found_tok text side_table at end kind) × FoundFits text side_table at end kind × PutInSideTable kind side_table side_table
plain_found kinds.Annotation text side_table at end P n t plain h e = cc
plain_found kinds.InSideTable text side_table at end P n t plain (there, note) e = cc
plain_found _ text side_table at end P n t plain h e = (sym e, h, refl)

-- a word isn't a paren
pub word_no_paren : (kind : Kind) (text : List ℕ) (from end : ℕ) (other : Token) → is_word kind ≡ true → is_paren (tok_at kind text from end other) ≡ false
word_no_paren kinds.LParen text from end other a_word = cc
word_no_paren kinds.RParen text from end other a_word = cc
word_no_paren kinds.Annotation text from end other a_word = cc
word_no_paren kinds.InSideTable text from end other a_word = cc
word_no_paren _ text from end other a_word = refl

-- a word isn't put into the side table
pub word_nowhere : (kind : Kind) (old new : List Placed) → is_word kind ≡ true → PutInSideTable kind old new → new ≡ old
word_nowhere kinds.LParen old new a_word e = cc
word_nowhere kinds.RParen old new a_word e = cc
word_nowhere kinds.Annotation old new a_word e = cc
word_nowhere kinds.InSideTable old new a_word e = cc
word_nowhere _ old new a_word e = e

-- a kind that fits in an empty text isn't a word
pub no_word : (kind : Kind) (side_table : List Placed) (at : ℕ) → FoundFits [] side_table at 0 kind → is_word kind ≡ true → ⊥
no_word kinds.LParen side_table at h a_word = cc
no_word kinds.RParen side_table at h a_word = cc
no_word kinds.Annotation side_table at h a_word = cc
no_word kinds.InSideTable side_table at h a_word = cc
no_word kinds.String side_table at h a_word = omega (arith, h)
no_word _ side_table at h a_word = omega (arith, h)

-- an annotation is found by its kind
pub annotation_found : (kind : Kind) (text : List ℕ) (at end : ℕ) (P : Type 0) (n : List ℕ) → is_annotation_kind kind ≡ true → Readable kind text at end P (Annotation n) → P × (tok_at kind text at end (Annotation n) ≡ Annotation n)
annotation_found kinds.Annotation text at end P n note h = (h.0, refl)
annotation_found _ text at end P n note h = cc
