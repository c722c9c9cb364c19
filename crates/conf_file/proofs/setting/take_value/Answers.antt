use Rattle.bulk_base.proofs.TextTests.{is_text-from_IsText}
use Rattle.conf_file.proofs.setting.take_value.Goals as goal

pub of-requires : goal.of-requires
of-requires c = is_text-from_IsText c.args.value.now c.requires.value

pub of-requires-then-not-is_value : goal.of-requires-then-not-is_value
of-requires-then-not-is_value c = is_text-from_IsText c.args.name.now c.requires.name
