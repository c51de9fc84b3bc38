-- The annotation that gives a name.
use Rattle.std.specs.Prelude.{ℕ, Bool, List, codes}
use Rattle.wat_lexer.specs.Token.{Token}
use Rattle.wat_tokens.specs.Production.{Production}
use Rattle.wat_tokens.specs.Test.{Test, run, at_annotation}
use Rattle.wat_tokens.specs.Groups.{annotation_group}
use Rattle.wat_tokens.specs.Strings.{text}

-- ( @name name )
unfoldable pub name_annotation : Production (List ℕ)
name_annotation = annotation_group (codes "name") text

abbrev pub at_name : Test
at_name = at_annotation (codes "name")

abbrev pub begins_name : List Token → Bool
begins_name t = run at_name t
