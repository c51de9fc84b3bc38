-- Laws: consecutive groups of parts, as the list of all their parts.
use Rattle.std.proofs.Common.{◌≡◌, ◌≤◌, List, [], ◌∷◌, ◌++◌, Some, None, refl, ap, sym, ◌∙◌, append_assoc}
use Rattle.wat_tokens.specs.Laws.Prelude.{append-nil, Token, Production, Read, bind, some_of, option_of, Test, run, add_all, all_of, join, joined_behind, joined, many_reads}

module _ {A : Type 0} where
  pub joins : (gs : List (List A)) (before : List A)
      → add_all join gs before ≡ Some (before ++ all_of gs)
  joins [] before = ap (λ (u : List A). option_of u) (sym (append-nil before))
  joins (g ∷ gs) before =
      joins gs (before ++ g) ∙ ap (λ (u : List A). option_of u) (append_assoc before g (all_of gs))

  pub join_all : (x : Read (List (List A)))
      → joined_behind [] x ≡ bind x (λ gs r. some_of (all_of gs, r))
  join_all (Some x) = rw (joins x.0 []) refl
  join_all None = refl

-- appended to the empty list, the parts are what `joined` reads
pub joined_reads : {A : Type 0} (follows : Test) (g : Production (List A))
    (consumes : 1 ≤ g.least) (t : List Token)
    → joined_behind [] (many_reads (λ r. run follows r) g t) ≡ (joined follows g consumes).reads t
joined_reads follows g consumes t = join_all (many_reads (λ r. run follows r) g t)
