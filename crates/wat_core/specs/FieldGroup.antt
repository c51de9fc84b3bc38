-- A field in its group.
use Rattle.wat_fields.specs.Prelude.{paren, Production}
use Rattle.wat_core.specs.Field.{ModuleFieldModel, module_field}

-- ( ModuleField )
abbrev pub field_group : Production ModuleFieldModel
field_group = paren module_field
