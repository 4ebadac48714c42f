use Rattle.std.proofs.Common.{◌≡◌, sym, ap, ◌∙◌, subst, Some}
use Rattle.atom_words.specs.Seats.{seen}
use Rattle.atom_table.specs.Holding.{IsEngine}
use Rattle.atom_words.specs.declared.view.View.{View}
use Rattle.atom_table.specs.Opening.{fixed_slots}
use Rattle.atom_table.specs.Naming.{requests}
use Rattle.atom_table.proofs.Naming.{lawful, sits_kept, names_kept}
use Rattle.atom_table.proofs.Refusals.{so_same}
use Rattle.atom_table.proofs.atoms.TableAtomsAtoms.keep_only.Goals as goal

pub invariant_of-self : goal.invariant_of-self
invariant_of-self g c = let s = c.args.self.now in let t = c.keep.new.seat in let fixed : (seen t).fixed ≡ fixed_slots = ap (λ (y : View). y.fixed) c.keep.ensures.steps ∙ s.fixed in
    let sits = sits_kept s.table.now.words c.args.live.now s.seat t c.keep.ensures.same c.keep.ensures.steps s.sits in record { named = s.named; sized = s.sized; sits = sits; engine = subst (λ (y : View). IsEngine y) (sym c.keep.ensures.steps) s.engine; fixed = fixed; lawful = lawful s.table.now.words t sits fixed; refused = so_same (seen s.seat) (seen t) (ap (λ (y : View). y.refusals) c.keep.ensures.steps) (ap (λ (y : View). y.size) c.keep.ensures.steps) s.refused }

pub returns-clause-kept : goal.returns-clause-kept
returns-clause-kept g c = let s = c.args.self.now in names_kept c.args.live.now (seen s.seat) (seen c.keep.new.seat) c.keep.ensures.steps s.fixed

pub returns-clause-refusal : goal.returns-clause-refusal
returns-clause-refusal g c = ap (λ (y : View). y.refusals) c.keep.ensures.steps

pub returns-clause-request : goal.returns-clause-request
returns-clause-request g c = ap (λ (y : View). Some (requests y)) c.keep.ensures.steps
