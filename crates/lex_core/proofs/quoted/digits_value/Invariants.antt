use Rattle.std.proofs.Common.{◌≡◌, ◌-◌, ◌^◌, take, min}
use Rattle.std.specs.Str.Parse.{digits_value}
use Rattle.lex_core.proofs.quoted.digits_value.Given as goal

abbrev pub invariant-loop-digit : goal.invariant-loop-digit
invariant-loop-digit l = l.value ≡ min (2 ^ 64 - 1) (digits_value l.radix (take l.digit-index l.digits))
