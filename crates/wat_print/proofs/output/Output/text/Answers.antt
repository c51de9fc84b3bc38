use Rattle.std.proofs.lemmas.Str.{is_utf8-from_IsUtf8}
use Rattle.wat_print.proofs.output.Output.text.Goals as goal

pub returns-in_err-space-clause-printable : goal.returns-in_err-space-clause-printable
returns-in_err-space-clause-printable c = is_utf8-from_IsUtf8 c.args.content.now c.utf8.content

pub returns-in_err-push_str-clause-printable : goal.returns-in_err-push_str-clause-printable
returns-in_err-push_str-clause-printable c = is_utf8-from_IsUtf8 c.args.content.now c.utf8.content

pub returns-in_err-push_characters-clause-printable
    : goal.returns-in_err-push_characters-clause-printable
returns-in_err-push_characters-clause-printable c = is_utf8-from_IsUtf8 c.args.content.now c.utf8.content

pub returns-clause-printable : goal.returns-clause-printable
returns-clause-printable c = is_utf8-from_IsUtf8 c.args.content.now c.utf8.content
