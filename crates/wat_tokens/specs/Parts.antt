-- Parts of productions: one token, a sequence, a choice, a value made of parts, an optional part.
-- Their relations and readers are in PartSpells.
use Rattle.std.specs.Prelude.{ℕ, ◌+◌, min, Bool, true, false, List, Option, refl, is_some}
use Rattle.wat_lexer.specs.Token.{Token}
use Rattle.wat_tokens.specs.Tests.{word_only, annotation_only}
use Rattle.wat_tokens.specs.Test.{Test, run, at_word}
use Rattle.wat_tokens.specs.Asks.{nothing, ask, also, behind}
use Rattle.wat_tokens.specs.Parens.{NoParens}
use Rattle.wat_tokens.specs.Production.{Production}
use Rattle.wat_tokens.specs.PartSpells.{one_spells, one_reads, seq_spells, seq_reads, where_spells, where_reads, of_spells, of_reads, opt_spells, opt_reads}
use Rattle.wat_tokens.specs.Laws.Parts.{one_sound, one_complete, one_takes, one_balanced, seq_sound, seq_complete, seq_takes, seq_balanced, where_sound, where_complete, where_takes, where_balanced, of_sound, of_complete, of_takes, of_balanced, opt_sound, opt_complete, opt_takes, opt_balanced}
use Rattle.wat_tokens.specs.Laws.Moves.{begun, seq_moves, where_moves, opt_moves}

-- ---- one token that has a value

-- a token that has a value by value_of; parentheses have no value
abbrev pub one : {A : Type 0} → (value_of : Token → Option A) → NoParens value_of → Production A
one value_of flat = record {
  spells = one_spells value_of;
  reads = one_reads value_of;
  least = 1;
  sound = one_sound value_of;
  complete = one_complete value_of;
  takes = one_takes value_of;
  balanced = one_balanced value_of flat;
  asks = nothing;
  moves = λ v c r s a p. p;
}

-- ---- one part, and then another

abbrev pub seq : {A B : Type 0} → Production A → Production B → Production (A × B)
seq g h = record {
  spells = seq_spells g h;
  reads = seq_reads g h;
  least = g.least + h.least;
  sound = seq_sound g h;
  complete = seq_complete g h;
  takes = seq_takes g h;
  balanced = seq_balanced g h;
  asks = also (behind h.least g.asks) h.asks;
  moves = seq_moves g h;
}

-- ---- one part if a test of the next tokens holds, else another part

abbrev pub where_else : {A : Type 0} → Test → Production A → Production A → Production A
where_else test g h = record {
  spells = where_spells (λ r. run test r) g h;
  reads = where_reads (λ r. run test r) g h;
  least = min g.least h.least;
  sound = where_sound (λ r. run test r) g h;
  complete = where_complete (λ r. run test r) g h;
  takes = where_takes (λ r. run test r) g h;
  balanced = where_balanced (λ r. run test r) g h;
  asks = also (begun true test g) (begun false test h);
  moves = where_moves test g h;
}

-- ---- a value made of the parts, if the parts meet a condition

abbrev pub made_where : {A B : Type 0} → (A → Bool) → (A → B) → Production A → Production B
made_where ok f g = record {
  spells = of_spells ok f g;
  reads = of_reads ok f g;
  least = g.least;
  sound = of_sound ok f g;
  complete = of_complete ok f g;
  takes = of_takes ok f g;
  balanced = of_balanced ok f g;
  asks = g.asks;
  moves = λ v c r s a p. (p.0, g.moves p.0 c r s a p.1, p.2, p.3);
}

-- ---- an optional part: present if the next tokens begin it

abbrev pub opt : {A : Type 0} → Test → Production A → Production (Option A)
opt test g = record {
  spells = opt_spells (λ r. run test r) g;
  reads = opt_reads (λ r. run test r) g;
  least = 0;
  sound = opt_sound (λ r. run test r) g;
  complete = opt_complete (λ r. run test r) g;
  takes = opt_takes (λ r. run test r) g;
  balanced = opt_balanced (λ r. run test r) g;
  asks = also (begun true test g) (ask false test);
  moves = opt_moves test g;
}

-- ---- shorter names

-- g, with the value that f makes of g's value
abbrev pub made : {A B : Type 0} → (A → B) → Production A → Production B
made f g = made_where (λ _. true) f g

-- the word
abbrev pub word : List ℕ → Production (Unit {0})
word w = one (word_only w) (refl, refl)

-- word?, as whether the word is present
abbrev pub flag : List ℕ → Production Bool
flag w = made (λ o. is_some o) (opt (at_word w) (word w))

-- @name
abbrev pub annotation_token : List ℕ → Production (Unit {0})
annotation_token name = one (annotation_only name) (refl, refl)

-- @name g, the value of g
abbrev pub annotation : {A : Type 0} → List ℕ → Production A → Production A
annotation name g = made (λ v. v.1) (seq (annotation_token name) g)

-- w g, the value of g
abbrev pub after_word : {A : Type 0} → List ℕ → Production A → Production A
after_word w g = made (λ v. v.1) (seq (word w) g)
