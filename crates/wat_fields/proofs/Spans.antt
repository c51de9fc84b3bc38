-- Where the expressions of fields keep spans: lemmas for the functions' proofs.
use Rattle.std.proofs.Common.{◌≡◌, ℕ, Bool, true, false, ◌&&◌, List, [], ◌∷◌, ◌++◌, length, Option, Some, None, refl, ap, subst, sym, ◌∙◌, arith, length-append, Vec, codes, eqb}
use Rattle.wat_expr.specs.Prelude.{some_is, none_of, none_is_not, SpansAre}
use Rattle.wat_fields.specs.Prelude.{eqb-true, eq-eqb, Global, IndexModel, flag, one_reads, some_of, by_read, as_lparen, begins_word, begins_lparen, second, Token, Label, label, is_64, RefTypeModel, ref_type, FieldHeadModel, head, Expression, data_memory}
use Rattle.wat_tokens.specs.Laws.Production.{by_option}
use Rattle.wat_tokens.specs.Tests.{word_only}
use Rattle.wat_expr.specs.Expression.{kept_spans, and_span}
use Rattle.wat_fields.specs.declared.data.DataKind.{DataKind}
use Rattle.wat_fields.specs.declared.elem.ElemKind.{ElemKind}
use Rattle.wat_fields.specs.declared.payload.ElemPayload.{ElemPayload}
use Rattle.wat_fields.specs.declared.table.TableKind.{TableKind}
use Rattle.wat_fields.specs.Spans.{is_many, OffsetSpansAre, DataSpansAre, offset_behind, data_front, PayloadSpansAre, ElemSpansAre, TableSpansAre, items_behind, inline_front, table_front}

-- ---- whether spans are kept, in another form

pub same_spans : (a b : Bool) (e : Expression) → a ≡ b → SpansAre a e → SpansAre b e
same_spans a b e k h = subst (λ (c : Bool). SpansAre c e) k h

pub same_offset_spans : (v w a b : Bool) (e : Expression) → v ≡ w → a ≡ b → OffsetSpansAre v a e → OffsetSpansAre w b e
same_offset_spans v w a b e k l h = subst (λ (c : Bool). OffsetSpansAre w c e) l (subst (λ (c : Bool). OffsetSpansAre c a e) k h)

pub same_data_spans : (v w a b : Bool) (d : DataKind) → v ≡ w → a ≡ b → DataSpansAre v a d → DataSpansAre w b d
same_data_spans v w a b d k l h = subst (λ (c : Bool). DataSpansAre w c d) l (subst (λ (c : Bool). DataSpansAre c a d) k h)

pub same_payload_spans : (a b : Bool) (p : ElemPayload) → a ≡ b → PayloadSpansAre a p → PayloadSpansAre b p
same_payload_spans a b p k h = subst (λ (c : Bool). PayloadSpansAre c p) k h

pub same_elem_spans : (a b : Bool) (s : ElemKind × ElemPayload) → a ≡ b → ElemSpansAre a s → ElemSpansAre b s
same_elem_spans a b s k h = subst (λ (c : Bool). ElemSpansAre c s) k h

pub same_listed_spans : (v w a b : Bool) (p : ElemPayload) → v ≡ w → a ≡ b → PayloadSpansAre (v && a) p → PayloadSpansAre (w && b) p
same_listed_spans v w a b p k l h = subst (λ (c : Bool). PayloadSpansAre (w && c) p) l (subst (λ (c : Bool). PayloadSpansAre (c && a) p) k h)

pub same_table_spans : (v w a b : Bool) (t : TableKind) → v ≡ w → a ≡ b → TableSpansAre v a t → TableSpansAre w b t
same_table_spans v w a b t k l h = subst (λ (c : Bool). TableSpansAre w c t) l (subst (λ (c : Bool). TableSpansAre c a t) k h)

-- ---- an instruction after the others

many_behind : {A : Type 0} (i x : A) (xs : List A) → is_many ((x ∷ xs) ++ i ∷ []) ≡ true
many_behind i x [] = refl
many_behind i x (y ∷ r) = refl

module _ {A S : Type 0} where
  -- `SpansAre` of the spans and the instructions
  abbrev pub Spans : Bool → Option (Vec S Global) → List A → Type 0
  Spans keeps spans xs =
      elim spans [
        | Some v ↦ (keeps ≡ true) × (length v.items ≡ length xs)
        | None ↦ keeps ≡ false
      ]

  added : (keeps : Bool) (s : S) (i : A) (xs ys : List A) (o p : Option (Vec S Global)) → Spans keeps o xs → kept_spans p ≡ and_span s (kept_spans o) → ys ≡ xs ++ i ∷ [] → Spans keeps p ys
  added keeps s i xs ys (Some v) (Some w) h e k =
      (h.0, (let f : w.items ≡ v.items ++ s ∷ [] = (cc) in omega (arith, ap length f, ap length k, length-append v.items (s ∷ []), length-append xs (i ∷ []), h.1)))
  added keeps s i xs ys (Some v) None h e k = absurd cc
  added keeps s i xs ys None (Some w) h e k = absurd cc
  added keeps s i xs ys None None h e k = h

  -- after other instructions, there is one more span than before
  pub put_behind : (tracks is_empty : Bool) (n : ℕ) (s : S) (i : A) (xs ys : List A) (o p : Option (Vec S Global)) → n ≡ length xs → is_empty ≡ eqb n 0 → is_empty ≡ false → Spans tracks o xs → kept_spans p ≡ and_span s (kept_spans o) → ys ≡ xs ++ i ∷ [] → Spans (is_many ys && tracks) p ys
  put_behind tracks is_empty n s i [] ys o p l b f h e k =
      absurd (let t : eqb n 0 ≡ true = eq-eqb n 0 l in cc)
  put_behind tracks is_empty n s i (x ∷ xs) ys o p l b f h e k =
      let many : is_many ys ≡ true = rw k (many_behind i x xs) in
      subst (λ (b : Bool). Spans (b && tracks) p ys) (sym many) (added tracks s i (x ∷ xs) ys o p h e k)

  -- a single instruction has no spans
  pub put_alone : (tracks is_empty : Bool) (n : ℕ) (i : A) (xs ys : List A) (p : Option (Vec S Global)) → n ≡ length xs → is_empty ≡ eqb n 0 → is_empty ≡ true → kept_spans p ≡ None → ys ≡ xs ++ i ∷ [] → Spans (is_many ys && tracks) p ys
  put_alone tracks is_empty n i [] ys (Some w) l b f e k = absurd cc
  put_alone tracks is_empty n i [] ys None l b f e k = rw k refl
  put_alone tracks is_empty n i (x ∷ xs) ys p l b f e k =
      absurd (let t : n ≡ 0 = eqb-true n 0 (sym b ∙ f) in omega (arith, l, t))

-- ---- the tokens after one token

pub second_behind : {A : Type 0} (f : Token → Option A) (test : List Token → Bool) (t r : List Token) (v : A) → one_reads f t ≡ Some (v, r) → second test t ≡ test r
second_behind {A = A} f test [] r v e = none_is_not {A = A} (v, r) e
second_behind {A = A} f test (x ∷ t) r v e =
    by_option (f x)
    (λ w k. (let e2 : some_of (w, t) ≡ some_of (v, r) = rw k at e in
    ap test (ap (λ (u : A × List Token). u.1) (some_is (w, t) (v, r) e2))))
    (λ k. (let e2 : none_of {A = A} ≡ some_of (v, r) = rw k at e in none_is_not (v, r) e2))

-- ---- data segments

-- the word after the memory and `(`
pub offset_behind_memory : (t a b : List Token) (m : IndexModel) (u : Unit {0}) → data_memory.reads t ≡ Some (m, a) → one_reads as_lparen a ≡ Some (u, b) → begins_word (codes "offset") b ≡ offset_behind (data_memory.reads t)
offset_behind_memory t a b m u e f = rw e (sym (second_behind as_lparen (begins_word (codes "offset")) a b u f))

-- the same after `data id? name?`
pub offset_behind_front : (t a b : List Token) (l : Label) → one_reads (word_only (codes "data")) t ≡ Some (tt, a) → label.reads a ≡ Some (l, b) → offset_behind (data_memory.reads b) ≡ offset_behind (data_front.reads t)
unfolding data_front
offset_behind_front t a b l e f = rw (e, f) (by_read (data_memory.reads b) (λ x k. rw k refl) (λ k. rw k refl))

-- ---- tables

-- the `(` after the type, `(` and `elem`
pub items_behind_type : (t a b r o w : List Token) (shared is64 : Bool) (ty : RefTypeModel) (u v : Unit {0}) → (flag (codes "shared")).reads t ≡ Some (shared, a) → is_64.reads a ≡ Some (is64, b) → ref_type.reads b ≡ Some (ty, r) → one_reads as_lparen r ≡ Some (u, o) → one_reads (word_only (codes "elem")) o ≡ Some (v, w)
    → begins_lparen w ≡ items_behind (inline_front.reads t)
unfolding inline_front
items_behind_type t a b r o w shared is64 ty u v e f g h k =
    rw (e, f, g) (sym (second_behind as_lparen (second begins_lparen) r o u h ∙ second_behind (word_only (codes "elem")) begins_lparen o w v k))

-- the same after `table` and a head
pub items_behind_front : (t a b : List Token) (h : FieldHeadModel) → one_reads (word_only (codes "table")) t ≡ Some (tt, a) → head.reads a ≡ Some (h, b) → items_behind (inline_front.reads b) ≡ items_behind (table_front.reads t)
unfolding table_front
items_behind_front t a b h e f = rw (e, f) (by_read (inline_front.reads b) (λ x k. rw k refl) (λ k. rw k refl))
