-- The place of a command's word: the commands are declared in the order of their words.
use Rattle.std.specs.Prelude.{ℕ}
use denote.Enum.Declared.{tag_of}
use Rattle.console_lines.specs.declared.commands.Command.{Command}
use Rattle.console_lines.specs.contracts.commands.Command.{the_type}

abbrev pub place_of : Command → ℕ
place_of = tag_of the_type
