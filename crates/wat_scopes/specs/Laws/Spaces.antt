-- Laws: the tests of equality decide equality of spaces and of names.
use Rattle.std.proofs.Common.{◌≡◌, ℕ, List, ◌&&◌, ◌==◌, ◌∙◌, ap, refl, sym, if◌then◌else◌}
use Rattle.std.specs.Bool.{Decides}
use Rattle.std.specs.Cmp.{first_so, unsigned_Decides}
use Rattle.std.specs.Cmp.Lexicographic.{bytes_decides}
use Rattle.wat_tokens.specs.Prelude.{both_true}
use Rattle.wat_tokens.specs.Laws.Prelude.{second_so}
use Rattle.wat_scopes.specs.Spaces.{SpaceModel, types, funcs, tables, memories, globals, tags, elems, datas, locals, fields_at, fields_of, NameModel, name_in, kind_of, number_of, owner_of, same_space, same_name}

-- the space of a kind, a number and a name
abbrev space_from : ℕ → ℕ → List ℕ → SpaceModel
space_from k n x =
    if k == 0 then types else
    if k == 1 then funcs else
    if k == 2 then tables else
    if k == 3 then memories else
    if k == 4 then globals else
    if k == 5 then tags else
    if k == 6 then elems else
    if k == 7 then datas else
    if k == 8 then locals n else
    if k == 9 then fields_at n else fields_of x

rebuilt : (s : SpaceModel) → space_from (kind_of s) (number_of s) (owner_of s) ≡ s
rebuilt types = refl
rebuilt funcs = refl
rebuilt tables = refl
rebuilt memories = refl
rebuilt globals = refl
rebuilt tags = refl
rebuilt elems = refl
rebuilt datas = refl
rebuilt (locals n) = refl
rebuilt (fields_at n) = refl
rebuilt (fields_of x) = refl

alike : (s t : SpaceModel) → kind_of s ≡ kind_of t → number_of s ≡ number_of t
    → owner_of s ≡ owner_of t → s ≡ t
alike s t k n x =
    sym (rebuilt s)
    ∙ (rw k (rw n (rw x (rebuilt t))))

pub same_space_decides : (s t : SpaceModel) → Decides (same_space s t) (s ≡ t)
same_space_decides s t = (
  λ e. alike s t
      ((unsigned_Decides (kind_of s) (kind_of t)).0 (first_so (kind_of s == kind_of t) _ (first_so (kind_of s == kind_of t && number_of s == number_of t) _ e)))
      ((unsigned_Decides (number_of s) (number_of t)).0 (second_so (kind_of s == kind_of t) _ (first_so (kind_of s == kind_of t && number_of s == number_of t) _ e)))
      ((bytes_decides (owner_of s) (owner_of t)).0 (second_so (kind_of s == kind_of t && number_of s == number_of t) _ e)),
  λ e. both_true (both_true ((unsigned_Decides (kind_of s) (kind_of t)).1 (ap kind_of e)) ((unsigned_Decides (number_of s) (number_of t)).1 (ap number_of e))) ((bytes_decides (owner_of s) (owner_of t)).1 (ap owner_of e)),
)

alike_names : (m n : NameModel) → m.space ≡ n.space → m.id ≡ n.id → m ≡ n
alike_names m n s i = ap (λ x. name_in x m.id) s ∙ ap (λ x. name_in n.space x) i

pub same_name_decides : (m n : NameModel) → Decides (same_name m n) (m ≡ n)
same_name_decides m n = (
  λ e. alike_names m n
      ((same_space_decides m.space n.space).0 (first_so (same_space m.space n.space) _ e))
      ((bytes_decides m.id n.id).0 (second_so (same_space m.space n.space) _ e)),
  λ e. both_true ((same_space_decides m.space n.space).1 (ap (λ x. x.space) e)) ((bytes_decides m.id n.id).1 (ap (λ x. x.id) e)),
)
