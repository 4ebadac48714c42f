use Rattle.std.proofs.Common.{◌≡◌, string_bytes, take}
use Rattle.std.specs.Str.{chars}
use Rattle.builtin_atom.proofs.characters.string_from.Given as goal

abbrev pub invariant-loop-c : goal.invariant-loop-c
invariant-loop-c l = chars (string_bytes l.text) ≡ take l.c-index l.characters
