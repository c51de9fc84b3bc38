-- Lemmas on numbered lists.
use Rattle.std.proofs.Common.{◌≡◌, ℕ, ◌+◌, ◌<◌, List, [], ◌∷◌, ◌++◌, length, length-append, take, get_or, map, sym, ap, ◌∙◌, append_assoc, append-nil, arith}
use Rattle.std.specs.Prelude.{flat_map}
use Rattle.std.proofs.lemmas.List.{take_more, map-append, length-take-le, length-map}
use Rattle.wat_names.specs.Numbered.{numbered}
use Rattle.wat_names.proofs.Flat.{flat_more}

pub numbered-append : {A B : Type 0} (f : ℕ → A → List B) (k : ℕ) (xs ys : List A)
    → numbered f k (xs ++ ys) ≡ numbered f k xs ++ numbered f (k + length xs) ys
numbered-append f k [] ys =
    let e : k ≡ k + 0 = omega arith in ap (λ n. numbered f n ys) e
numbered-append f k (x ∷ xs) ys =
    let e : (k + 1) + length xs ≡ k + length (x ∷ xs) = omega arith in
    ap (λ ls. f k x ++ ls) (numbered-append f (k + 1) xs ys)
    ∙ sym (append_assoc (f k x) (numbered f (k + 1) xs) (numbered f ((k + 1) + length xs) ys))
    ∙ ap (λ n. (f k x ++ numbered f (k + 1) xs) ++ numbered f n ys) e

-- for loops: the lists of ys after those of xs
pub numbered_more : {A B : Type 0} (f : ℕ → A → List B) (k n : ℕ) (xs ys zs : List A)
    → n ≡ k + length xs → zs ≡ xs ++ ys → (old mid new : List B)
    → mid ≡ old ++ numbered f k xs → new ≡ mid ++ numbered f n ys → new ≡ old ++ numbered f k zs
numbered_more f k n xs ys zs e z old mid new h g =
    g ∙ ap (λ ls. ls ++ numbered f n ys) h ∙ append_assoc old (numbered f k xs) (numbered f n ys)
    ∙ ap (λ j. old ++ (numbered f k xs ++ numbered f j ys)) e
    ∙ ap (λ ls. old ++ ls) (sym (numbered-append f k xs ys)) ∙ ap (λ ls. old ++ numbered f k ls) (sym z)

-- for loops: one more item x of a list, whose first i items were added. The first has the number k
pub numbered_item : {X A B : Type 0} (f : ℕ → A → List B) (v : X → A) (xs : List X) (i : ℕ) (x : X)
    → i < length xs → x ≡ get_or xs i x → (k n : ℕ) → n ≡ k + i → (old mid new : List B)
    → mid ≡ old ++ numbered f k (map v (take i xs)) → new ≡ mid ++ f n (v x)
    → new ≡ old ++ numbered f k (map v (take (i + 1) xs))
numbered_item f v xs i x l e k n c old mid new h g =
    let a = length-map (take i xs) v in
    let b = length-take-le i xs (omega arith) in
    let m : map v (take (i + 1) xs) ≡ map v (take i xs) ++ v x ∷ [] =
    ap (map v) (take_more xs i x l) ∙ map-append v (take i xs) (get_or xs i x ∷ [])
    ∙ ap (λ y. map v (take i xs) ++ v y ∷ []) (sym e) in
    numbered_more f k n (map v (take i xs)) (v x ∷ []) (map v (take (i + 1) xs)) (omega (arith, a, b, c)) m
    old mid new h (g ∙ ap (λ ls. mid ++ ls) (sym (append-nil (f n (v x)))))

-- for loops: the number after one more list
pub number_more : {X M E : Type 0} (g : M → List E) (v : X → M) (xs : List X) (i : ℕ) (x : X)
    → i < length xs → x ≡ get_or xs i x → (n m : ℕ) → n ≡ length (flat_map g (map v (take i xs)))
    → m ≡ n + length (g (v x)) → m ≡ length (flat_map g (map v (take (i + 1) xs)))
number_more g v xs i x l e n m c d =
    d ∙ ap (λ j. j + length (g (v x))) c
    ∙ sym (length-append (flat_map g (map v (take i xs))) (g (v x)))
    ∙ ap length (sym (flat_more g v xs i x l e))
