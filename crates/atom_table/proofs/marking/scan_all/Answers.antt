use Rattle.std.proofs.Common.{◌≡◌, ◌++◌, [], ◌∷◌, ℕ, List, length, take, refl, sym, ap, ◌∙◌, subst, arith, take_all, length-append, length-take}
use Rattle.std.proofs.lemmas.List.{take_more}
use Rattle.atom_words.specs.Kinds.{Scanning, after}
use Rattle.atom_words.specs.Seats.{seen}
use Rattle.atom_words.specs.declared.view.View.{View}
use Rattle.atom_table.specs.Collecting.{scans}
use Rattle.atom_table.proofs.Scans.{scans_keep, scanned_more}
use Rattle.atom_table.proofs.marking.scan_all.Goals as goal

pub loop-a-init : goal.loop-a-init
loop-a-init c = record {
  same = (refl, refl);
  view = ([], refl, refl);
}

pub scan_if_there-requires-clause-fits : goal.scan_if_there-requires-clause-fits
scan_if_there-requires-clause-fits c = let v : View = seen c.args.seat.now in let inv = c.loop-a.invariant in let f = c.requires.fits in let ks : List ℕ = take c.loop-a.a-index c.args.live.now in let to = inv.view.2 in
    (inv.same.0 ∙ f.0, ap (λ (y : View). y.size) to ∙ (scans_keep (λ (y : View). y.size) (λ _ _. refl) (λ _ _ _. refl) v v ks inv.view.0 ∙ f.1), ap (λ (y : View). y.gone) to ∙ (scans_keep (λ (y : View). y.gone) (λ _ _. refl) (λ _ _ _. refl) v v ks inv.view.0 ∙ f.2))

pub scan_if_there-requires-clause-scanning : goal.scan_if_there-requires-clause-scanning
scan_if_there-requires-clause-scanning c = let v : View = seen c.args.seat.now in let inv = c.loop-a.invariant in let ks : List ℕ = take c.loop-a.a-index c.args.live.now in let xs : List ℕ = inv.view.0 in
    subst Scanning (sym inv.view.2) (let e = scans_keep (λ (y : View). y.cycle.engine) (λ _ _. refl) (λ _ _ _. refl) v v ks xs in let a = scans_keep (λ (y : View). y.cycle.acked) (λ _ _. refl) (λ _ _ _. refl) v v ks xs in let t = scans_keep (λ (y : View). y.cycle.scanned_at) (λ _ _. refl) (λ _ _ _. refl) v v ks xs in
    ((λ none. c.requires.scanning.0 (sym e ∙ none)), (let was = c.requires.scanning.1 in omega arith)))

pub loop-a-preserved : goal.loop-a-preserved
loop-a-preserved c = let v : View = seen c.args.seat.now in let inv = c.loop-a.invariant in let ks : List ℕ = take c.loop-a.a-index c.args.live.now in let xs : List ℕ = inv.view.0 in let next = c.scan_if_there.ensures.steps in let few = c.loop-a-test.true in
    let long : length xs ≡ length ks = let a = inv.view.1 in let b = length-take c.loop-a.a-index c.args.live.now in omega arith in
    record {
      same = (c.scan_if_there.ensures.same.0 ∙ inv.same.0, c.scan_if_there.ensures.same.1 ∙ inv.same.1);
      view = (
        xs ++ next.0 ∷ [],
        (let a = inv.view.1 in let b = length-append xs (next.0 ∷ []) in omega arith),
        scanned_more v (seen c.loop-a.seat) (seen c.scan_if_there.new.seat) ks xs c.a-item.result next.0 long inv.view.2 next.1
            ∙ ap (λ (l : List ℕ). after v (scans v l (xs ++ next.0 ∷ []))) (sym (take_more c.args.live.now c.loop-a.a-index c.a-item.result c.loop-a-test.true ∙ ap (λ (x : ℕ). ks ++ x ∷ []) (sym c.a-item.is))),
      );
    }

pub returns-clause-steps : goal.returns-clause-steps
returns-clause-steps c = let v : View = seen c.args.seat.now in let inv = c.loop-a.invariant in let xs : List ℕ = inv.view.0 in let all : take c.loop-a.a-index c.args.live.now ≡ c.args.live.now = take_all c.loop-a.a-index c.args.live.now (omega (arith, c.loop-a-test.false)) in (
  xs,
  (let a = inv.view.1 in let b = c.loop-a-test.false in let d = length-take c.loop-a.a-index c.args.live.now in let e = ap length all in omega arith),
  inv.view.2 ∙ ap (λ (l : List ℕ). after v (scans v l xs)) all,
)
