-- Groups that are open after tokens.
use Rattle.std.proofs.Common.{◌≡◌, ℕ, zero, suc, ◌+◌, ◌-◌, ◌<◌, List, [], ◌∷◌, ◌++◌, take, refl, ap, sym, ◌∙◌, subst, arith, Bool, None}
use Rattle.wat_format.specs.Prelude.{take-append-drop, Closed, class, Token, LParen, RParen, Keyword, Id, Annotation, Integer, String, Reserved, class_right, KnownRight, Part, a_token, a_comment, toks_in, part_of, groups_behind}
use Rattle.wat_lexer.specs.Sight.{behind_group, deeper}
use Rattle.wat_format.specs.declared.piece.Shape.{Shape}
use Rattle.wat_format.specs.declared.piece.Shape.TheVariants as of

-- the number of open groups after tokens, if `depth` groups are open before the tokens
abbrev pub open_behind : ℕ → List Token → ℕ
open_behind depth [] = depth
open_behind depth (t ∷ ts) = open_behind (deeper t depth) ts

open_append : (depth : ℕ) (ts us : List Token) → open_behind depth (ts ++ us) ≡ open_behind (open_behind depth ts) us
open_append depth [] us = refl
open_append depth (t ∷ ts) us = open_append (deeper t depth) ts us

-- each group around an unclosed group is still open
still_open : (ts : List Token) (depth around : ℕ) → behind_group depth ts ≡ None → around < open_behind (depth + 1 + around) ts
unfolding behind_group
still_open [] depth around h = omega arith
still_open (LParen ∷ ts) depth around h =
    let e : depth + 1 + 1 + around ≡ depth + 1 + around + 1 = omega arith in
    subst (λ d. around < open_behind d ts) e (still_open ts (depth + 1) around h)
still_open (RParen ∷ ts) zero around h = cc
still_open (RParen ∷ ts) (suc depth) around h =
    let e : depth + 1 + around ≡ suc depth + 1 + around - 1 = omega arith in
    let one_less : suc depth - 1 ≡ depth = omega arith in
    subst (λ d. around < open_behind d ts) e (still_open ts depth around (subst (λ d. behind_group d ts ≡ None) one_less h))
still_open (Keyword n ∷ ts) depth around h = still_open ts depth around h
still_open (Id n ∷ ts) depth around h = still_open ts depth around h
still_open (Annotation n ∷ ts) depth around h = still_open ts depth around h
still_open (Integer n ∷ ts) depth around h = still_open ts depth around h
still_open (String n ∷ ts) depth around h = still_open ts depth around h
still_open (Reserved n ∷ ts) depth around h = still_open ts depth around h

-- if no group is open at the end, each group that begins with an annotation is closed
pub all_closed : (ts : List Token) → open_behind 0 ts ≡ 0 → Closed ts
all_closed ts e i (n, rest, front, none_there) =
    let before = open_behind 0 (take i ts) in
    let parts : ts ≡ take i ts ++ (LParen ∷ Annotation n ∷ rest) = sym (take-append-drop i ts) ∙ ap (λ l. take i ts ++ l) front in
    let all : open_behind 0 ts ≡ open_behind (before + 1) rest = ap (open_behind 0) parts ∙ open_append 0 (take i ts) (LParen ∷ Annotation n ∷ rest) in
    let same : 0 + 1 + before ≡ before + 1 = omega arith in
    let more : before < open_behind (before + 1) rest = subst (λ d. before < open_behind d rest) same (still_open rest 0 before none_there) in
    omega (arith, e, all, more)

-- PIECES

no_group : (behind : Bool) (x : List ℕ) (t : Token) (depth : ℕ) → KnownRight behind x t → deeper t depth ≡ depth
no_group behind x LParen depth h = absurd h
no_group behind x RParen depth h = absurd h
no_group behind x (Keyword n) depth h = refl
no_group behind x (Id n) depth h = refl
no_group behind x (Annotation n) depth h = refl
no_group behind x (Integer n) depth h = refl
no_group behind x (String n) depth h = refl
no_group behind x (Reserved n) depth h = refl

behind_piece : (behind : Bool) (s : Shape) (x : List ℕ) (depth : ℕ) → open_behind depth (toks_in (part_of behind s x ∷ [])) ≡ groups_behind s depth
behind_piece behind of.Line x depth = refl
behind_piece behind of.Block x depth = refl
behind_piece behind of.Open x depth = refl
behind_piece behind of.Close x depth = refl
behind_piece behind of.Word x depth = no_group behind x (class behind x) depth (class_right behind x)

toks_append : (ps qs : List Part) → toks_in (ps ++ qs) ≡ toks_in ps ++ toks_in qs
toks_append [] qs = refl
toks_append (a_token x t ∷ ps) qs = ap (λ l. t ∷ l) (toks_append ps qs)
toks_append (a_comment x ∷ ps) qs = toks_append ps qs

pub one_piece_more : (ps : List Part) (behind : Bool) (s : Shape) (x : List ℕ) (depth : ℕ) → open_behind 0 (toks_in ps) ≡ depth → open_behind 0 (toks_in (ps ++ part_of behind s x ∷ [])) ≡ groups_behind s depth
one_piece_more ps behind s x depth e =
    let p = part_of behind s x in
    ap (open_behind 0) (toks_append ps (p ∷ [])) ∙ open_append 0 (toks_in ps) (toks_in (p ∷ [])) ∙ ap (λ d. open_behind d (toks_in (p ∷ []))) e ∙ behind_piece behind s x depth
