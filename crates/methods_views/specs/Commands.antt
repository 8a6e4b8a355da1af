-- The place of a command's word: the commands are declared in the order of their words.
use Rattle.std.specs.Prelude.{ℕ}
use denote.Enum.Declared.{tag_of}
use Rattle.methods_views.specs.declared.commands.Word.{Word}
use Rattle.methods_views.specs.contracts.commands.Word.{the_type}

abbrev pub place_of : Word → ℕ
place_of = tag_of the_type
