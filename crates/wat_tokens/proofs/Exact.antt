-- Consequences of a result that is exactly what the production reads.
use Rattle.std.proofs.Common.{◌≡◌, ◌≢◌, true, List, ◌++◌, Some, None, Result, Ok, Err, sym, ap, ◌∙◌, IfOk, IfErr}
use Rattle.wat_tokens.specs.Laws.Prelude.{Token, Error, Memory, Production, Front, ReadsPrefix, State, some_is, by_fault, refused_read, Gives, Accepts, ViewOf}
use Rattle.wat_tokens.specs.Laws.Refuses.{refused_memory}

module _ {X A : Type 0} (view : ViewOf X A) (g : Production A) where
  gives_refused : (res : Result X Error) (t left : List Token) → Gives view res (g.reads t) left
      → IfErr res (λ e. e.fault ≢ Memory → (v : A) (c r : List Token) → t ≡ c ++ r → g.spells v c r → ⊥)
  gives_refused (Ok x) t left h = tt
  gives_refused (Err e) t left h = λ not v c r whole s.
      (let read : g.reads t ≡ Some (v, r) = ap (λ (u : List Token). g.reads u) whole ∙ g.complete v c r s in
      let none : g.reads t ≡ None = refused_read view.may_use_heap view.heapless e.fault (g.reads t) h not in
      cc)

  gives_accepts : (res : Result X Error) (t left : List Token) → Gives view res (g.reads t) left
      → (v : A) (c r : List Token) → t ≡ c ++ r → g.spells v c r → Accepts view res v left r
  gives_accepts (Ok x) t left h v c r whole s =
      let read : g.reads t ≡ Some (v, r) = ap (λ (u : List Token). g.reads u) whole ∙ g.complete v c r s in
      let p = some_is (view.of x, left) (v, r) (sym h ∙ read) in
      (ap (λ (u : A × List Token). u.0) p, ap (λ (u : A × List Token). u.1) p)
  gives_accepts (Err e) t left h v c r whole s =
      let read : g.reads t ≡ Some (v, r) = ap (λ (u : List Token). g.reads u) whole ∙ g.complete v c r s in
      by_fault e.fault
      (λ m. (m, rw read at (refused_memory view.may_use_heap view.heapless e.fault (g.reads t) h m).1))
      (λ not. (let none : g.reads t ≡ None = refused_read view.may_use_heap view.heapless e.fault (g.reads t) h not in cc))

  pub gives_memory : (res : Result X Error) (t left : List Token) → Gives view res (g.reads t) left
      → IfErr res (λ e. e.fault ≡ Memory → view.may_use_heap ≡ true)
  gives_memory (Ok x) t left h = tt
  gives_memory (Err e) t left h = λ m. (refused_memory view.may_use_heap view.heapless e.fault (g.reads t) h m).0

  gives_sound : (res : Result X Error) (t left : List Token) → Gives view res (g.reads t) left
      → IfOk res (λ x. Front g.spells t (view.of x, left))
  gives_sound (Ok x) t left h = g.sound t (view.of x, left) h
  gives_sound (Err e) t left h = tt

  pub reads_prefix : (res : Result X Error) (a b : State) → Gives view res (g.reads a.left) b.left → ReadsPrefix view g res a b
  reads_prefix res a b h = record {
    sound = gives_sound res a.left b.left h;
    accepts = gives_accepts res a.left b.left h;
    refused = gives_refused res a.left b.left h;
  }
