use Rattle.std.proofs.Common.{◌≡◌, ℕ, refl, sym, ap, ◌∙◌, Some}
use Rattle.atom_words.specs.Seats.{seen}
use Rattle.atom_words.specs.declared.size.Size.{Size}
use Rattle.atom_words.specs.declared.view.View.{View}
use Rattle.atom_table.specs.Opening.{fixed_slots}
use Rattle.atom_table.specs.Holding.{unspelled}
use Rattle.atom_table.specs.Naming.{names, requests}
use Rattle.atom_table.proofs.Loading.{loads_keep}
use Rattle.atom_table.proofs.Settling.{engine_by}
use Rattle.atom_table.proofs.Naming.{lawful, held_text}
use Rattle.atom_table.proofs.Spelling.{unspelled_spelled}
use Rattle.atom_table.proofs.Refusals.{so_same}
use Rattle.atom_table.proofs.atoms.TableAtomsAtoms.text.Goals as goal

pub text-requires-clause-held : goal.text-requires-clause-held
text-requires-clause-held g c = let s = c.args.self.now in let p = held_text (seen s.seat) c.args.a c.requires in (p.1, p.2, p.3)

pub invariant_of-self : goal.invariant_of-self
invariant_of-self g c = let s = c.args.self.now in let t = c.text.new.seat in let e = c.text.ensures.steps in let z : Size = s.table.now.words.size in let k : ℕ = c.args.a in
    let fixed : (seen t).fixed ≡ fixed_slots = ap (λ (y : View). y.fixed) e.1 ∙ (loads_keep (λ (y : View). y.fixed) (λ _ _ _. refl) (seen s.seat) z k 0 e.0 ∙ s.fixed) in
    let v = seen s.seat in let engine = engine_by v (seen t) (ap (λ (y : View). y.cycle) e.1 ∙ loads_keep (λ (y : View). y.cycle) (λ _ _ _. refl) v z k 0 e.0) (ap (λ (y : View). y.sweep) e.1 ∙ loads_keep (λ (y : View). y.sweep) (λ _ _ _. refl) v z k 0 e.0) s.engine in
    record { named = s.named; sized = s.sized; sits = c.text.ensures.sits; engine = engine; fixed = fixed; lawful = lawful s.table.now.words t c.text.ensures.sits fixed; refused = so_same v (seen t) (ap (λ (y : View). y.refusals) e.1 ∙ loads_keep (λ (y : View). y.refusals) (λ _ _ _. refl) v z k 0 e.0) (ap (λ (y : View). y.size) e.1 ∙ loads_keep (λ (y : View). y.size) (λ _ _ _. refl) v z k 0 e.0) s.refused }

pub returns-clause-text : goal.returns-clause-text
returns-clause-text g c = let s = c.args.self.now in let p = held_text (seen s.seat) c.args.a c.requires in let told = c.text.ensures.text p.1 p.2 p.3 in
    p.5 ∙ ap Some (sym p.4 ∙ (ap unspelled told.2 ∙ unspelled_spelled c.text.new.buf told.0 told.1))

pub returns-clause-same : goal.returns-clause-same
returns-clause-same g c = let s = c.args.self.now in let e = c.text.ensures.steps in ap names e.1 ∙ loads_keep names (λ _ _ _. refl) (seen s.seat) s.table.now.words.size c.args.a 0 e.0

pub returns-clause-refusal : goal.returns-clause-refusal
returns-clause-refusal g c = let s = c.args.self.now in let e = c.text.ensures.steps in ap (λ (y : View). y.refusals) e.1 ∙ loads_keep (λ (y : View). y.refusals) (λ _ _ _. refl) (seen s.seat) s.table.now.words.size c.args.a 0 e.0

pub returns-clause-request : goal.returns-clause-request
returns-clause-request g c = let s = c.args.self.now in let e = c.text.ensures.steps in ap (λ (y : View). Some (requests y)) e.1 ∙ loads_keep (λ (y : View). Some (requests y)) (λ _ _ _. refl) (seen s.seat) s.table.now.words.size c.args.a 0 e.0
