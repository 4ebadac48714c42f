use Rattle.std.proofs.Common.{codes, sym}
use Rattle.builtin_atom.specs.declared.forms.Fault.TheVariants.{NoCharacter, NoCode, NoInteger}
use Rattle.builtin_atom.proofs.FaultLaws.{FaultRow, fault_as}
use Rattle.builtin_atom.proofs.Fixed.{character_code_is, character_is, integer_is}
use Rattle.builtin_atom.proofs.Rows.{with_ok}
use Rattle.builtin_atom.proofs.forms.fault_row.Goals as goal

pub returns-in-NoCharacter-clause-row : goal.returns-in-NoCharacter-clause-row
returns-in-NoCharacter-clause-row c =
    let s = c.args.store.now in
    let f = c.in-NoCharacter in
    let t = c.wrong_type.new.store in
    fault_as c.wrong_type.result s c.args.name t (NoCharacter f.place) c.args.fault (sym f.is)
    (with_ok _ (FaultRow s c.args.name t (NoCharacter f.place)) c.wrong_type.result
    (λ r h m p ts stand held known. h m (codes "character") p ts stand held character_is known) c.wrong_type.ensures.row)

pub returns-in-NoInteger-clause-row : goal.returns-in-NoInteger-clause-row
returns-in-NoInteger-clause-row c =
    let s = c.args.store.now in
    let f = c.in-NoInteger in
    let call = c.wrong_type-in-NoInteger in
    let t = call.new.store in
    fault_as call.result s c.args.name t (NoInteger f.place) c.args.fault (sym f.is)
    (with_ok _ (FaultRow s c.args.name t (NoInteger f.place)) call.result
    (λ r h m p ts stand held known. h m (codes "integer") p ts stand held integer_is known) call.ensures.row)

pub returns-in-NoCode-clause-row : goal.returns-in-NoCode-clause-row
returns-in-NoCode-clause-row c =
    let s = c.args.store.now in
    let t = c.past_limit.new.store in
    fault_as c.past_limit.result s c.args.name t NoCode c.args.fault (sym c.in-NoCode.is)
    (with_ok _ (FaultRow s c.args.name t NoCode) c.past_limit.result
    (λ r h m p ts stand held known. h m (codes "character_code") p ts stand character_code_is known) c.past_limit.ensures.row)
