use Rattle.std.proofs.Common.{◌≡◌, ◌≤◌, ◌+◌, length, sym, ap, ◌∙◌, arith, subst}
use Rattle.std.specs.HashMap.{get_by_text}
use Rattle.std.specs.Result.{is_ok}
use Rattle.atom_api.specs.Names.{Names}
use Rattle.atom_api.specs.Slots.{names_of, Indexed, Fitting}
use Rattle.atom_api.proofs.SlotNames.{names-push_if, length-push_if}
use Rattle.atom_api.proofs.slots.Slots.spare.Goals as goal

same_names : (c : goal.After-push-2) → names_of c.push-2.new.self.items ≡ names_of c.args.self.now.texts.items
same_names c = ap names_of c.push-2.ensures.items ∙ names-push_if (is_ok c.push-2.result) c.args.self.now.texts.items

pub invariant_of-self-2-clause-few : goal.invariant_of-self-2-clause-few
invariant_of-self-2-clause-few c =
    let longer : length c.push-2.new.self.items ≤ length c.args.self.now.texts.items + 1 =
    rw c.push-2.ensures.items (length-push_if (is_ok c.push-2.result) c.args.self.now.texts.items) in
    omega (arith, c.args.self.now.texts.ok, c.len.ensures)

pub invariant_of-self-2-clause-indexed : goal.invariant_of-self-2-clause-indexed
invariant_of-self-2-clause-indexed c = subst (λ (m : Names). Indexed (λ bytes. get_by_text c.args.self.now.numbers bytes) m) (sym (same_names c)) c.args.self.now.indexed

pub invariant_of-self-2-clause-fitting : goal.invariant_of-self-2-clause-fitting
invariant_of-self-2-clause-fitting c = subst (λ (m : Names). Fitting m) (sym (same_names c)) c.args.self.now.fitting

pub returns-clause-same : goal.returns-clause-same
returns-clause-same c = ap names_of c.push-2.ensures.items ∙ names-push_if (is_ok c.push-2.result) c.args.self.now.texts.items
