-- Which tokens may follow an instruction, and which questions they answer with no.
use Rattle.std.proofs.Common.{bytes_eq, ◌≡◌, ℕ, Bool, true, false, List, [], ◌∷◌, codes, refl, subst, sym, ◌∙◌, is_some, not, ◌&&◌, ◌||◌}
use Rattle.wat_mnemonics.specs.Prelude.{first_so, second_so, or_from, or_parts, not-true, bytes_eq-Decides, Token, RParen, Keyword, a_rparen, a_word, past_front, by_test, starts, after, either, second}
use Rattle.wat_tokens.specs.Kind.{Kind, word_from, content_where, fits, next_is}
use Rattle.wat_tokens.specs.Test.{Question, answer}

-- ---- what may follow

abbrev pub is_typing : List ℕ → Bool
is_typing w = bytes_eq w (codes "type") || (bytes_eq w (codes "param") || bytes_eq w (codes "result"))

abbrev pub is_fronted : List ℕ → Bool
is_fronted w = is_some (past_front (codes "offset=") w) || is_some (past_front (codes "align=") w)

abbrev pub is_asked : List ℕ → Bool
is_asked w = (is_typing w || (bytes_eq w (codes "seqcst") || bytes_eq w (codes "acqrel"))) || is_fronted w

abbrev pub is_untyped : List Token → Bool
is_untyped (Keyword w ∷ r) = not (is_typing w)
is_untyped _ = true

-- no token, a `)`, or a keyword that no part of an instruction is tested for; and the second token is none of `type`, `param` and `result`
abbrev pub may_follow : List Token → Bool
may_follow [] = true
may_follow (RParen ∷ r) = is_untyped r
may_follow (Keyword w ∷ r) = not (is_asked w) && is_untyped r
may_follow (_ ∷ r) = false

-- ---- questions with the answer no

abbrev pub off_kind : Kind → Bool
off_kind (a_word w) = is_asked w
off_kind (word_from p) = bytes_eq p (codes "offset=") || bytes_eq p (codes "align=")
off_kind (content_where f) = false
off_kind a_rparen = false
off_kind _ = true

abbrev pub off : Question → Bool
off (starts k) = off_kind k
off (after a b) = off a
off (either a b) = off a && off b
off _ = false

abbrev pub off_second : Question → Bool
off_second (starts (a_word w)) = is_typing w
off_second (either a b) = off_second a && off_second b
off_second _ = false

apart : (is : List ℕ → Bool) (v w : List ℕ) → is v ≡ true → is w ≡ false → bytes_eq w v ≡ false
apart is v w p q =
    by_test (bytes_eq w v)
    (λ e. absurd (let f : is v ≡ false = subst (λ (u : List ℕ). is u ≡ false) ((bytes_eq-Decides w v).0 e) q in let g : true ≡ false = sym p ∙ f in cc))
    (λ e. e)

no_front : (p w : List ℕ) → (bytes_eq p (codes "offset=") || bytes_eq p (codes "align=")) ≡ true → is_asked w ≡ false → is_some (past_front p w) ≡ false
no_front p w o f =
    let a = (or_parts (is_typing w || (bytes_eq w (codes "seqcst") || bytes_eq w (codes "acqrel"))) (is_fronted w) f).1 in
    let c = or_parts (is_some (past_front (codes "offset=") w)) (is_some (past_front (codes "align=") w)) a in
    by_test (bytes_eq p (codes "offset="))
    (λ e. rw ((bytes_eq-Decides p (codes "offset=")).0 e) c.0)
    (λ e. (let g : bytes_eq p (codes "align=") ≡ true = rw e at o in rw ((bytes_eq-Decides p (codes "align=")).0 g) c.1))

off_fits : (k : Kind) (x : Token) (r : List Token) → off_kind k ≡ true → may_follow (x ∷ r) ≡ true → fits k x ≡ false
off_fits (a_word v) (Keyword w) r o f = apart is_asked v w o (not-true (is_asked w) (first_so (not (is_asked w)) (is_untyped r) f))
off_fits (word_from p) (Keyword w) r o f = no_front p w o (not-true (is_asked w) (first_so (not (is_asked w)) (is_untyped r) f))
off_fits (content_where g) x r o f = absurd cc
off_fits k (Keyword w) r o f = refl
off_fits a_rparen RParen r o f = absurd cc
off_fits k RParen r o f = refl
off_fits k x r o f = absurd cc

off_first : (k : Kind) (s : List Token) → off_kind k ≡ true → may_follow s ≡ true → next_is k s ≡ false
off_first k [] o f = refl
off_first k (x ∷ s) o f = off_fits k x s o f

pub is_off : (s : List Token) → may_follow s ≡ true → (a : Question) → off a ≡ true → answer a s ≡ false
is_off s f (starts k) o = off_first k s o f
is_off s f (after a b) o = rw (is_off s f a o) refl
is_off s f (either a b) o = or_from (answer a s) (answer b s) (is_off s f a (first_so (off a) (off b) o)) (is_off s f b (second_so (off a) (off b) o))
is_off s f _ o = absurd cc

untyped : (s : List Token) → is_untyped s ≡ true → (a : Question) → off_second a ≡ true → answer a s ≡ false
untyped [] f (starts (a_word v)) o = refl
untyped (Keyword w ∷ s) f (starts (a_word v)) o = apart is_typing v w o (not-true (is_typing w) f)
untyped (_ ∷ s) f (starts (a_word v)) o = refl
untyped s f (either a b) o =
    or_from (answer a s) (answer b s) (untyped s f a (first_so (off_second a) (off_second b) o)) (untyped s f b (second_so (off_second a) (off_second b) o))
untyped s f _ o = absurd cc

untyped_behind : (x : Token) (s : List Token) → may_follow (x ∷ s) ≡ true → is_untyped s ≡ true
untyped_behind RParen s f = f
untyped_behind (Keyword w) s f = second_so (not (is_asked w)) (is_untyped s) f
untyped_behind _ s f = absurd cc

pub is_off_second : (s : List Token) → may_follow s ≡ true → (a : Question) → off_second a ≡ true → second (λ r. answer a r) s ≡ false
is_off_second [] f a o = refl
is_off_second (x ∷ s) f a o = untyped s (untyped_behind x s f) a o
