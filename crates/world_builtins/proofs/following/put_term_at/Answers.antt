use Rattle.std.proofs.Common.{◌≡◌, ◌∷◌, [], ◌++◌, length, refl, sym, ap, subst, ◌∙◌, arith}
use Rattle.pl_term.specs.Tree.{count}
use Rattle.term_writer.specs.Writings.{finished}
use Rattle.world_builtins.specs.Following.{IsOn}
use Rattle.world_builtins.specs.Spelling.{reads}
use Rattle.world_builtins.proofs.Followed.{none_ahead, on_begins}
use Rattle.world_builtins.proofs.following.put_term_at.Goals as goal

pub loop-init : goal.loop-init
loop-init g c =
    let m = g.A.Atoms.held c.args.atoms.now in
    let s = c.args.store.now in
    record {
      on = on_begins m s (reads m s c.args.place) c.args.writing.now c.args.place _ c.in_ok-places.ensures.items c.requires.inside c.requires.held refl c.requires.one;
      same = refl;
      refusals = refl;
      asked = refl;
    }

pub put_first-requires : goal.put_first-requires
put_first-requires g c =
    let m = g.A.Atoms.held c.args.atoms.now in
    let s = c.args.store.now in
    let t = reads m s c.args.place in
    let on = subst (λ ps. IsOn m s t c.args.writing.now ps c.loop.writing) c.in-Some.ensures.items c.loop.invariant.on in
    (t, c.args.writing.now, subst (λ k. IsOn k s t c.args.writing.now (c.pop.new.self.items ++ c.in-Some.next ∷ []) c.loop.writing) (sym c.loop.invariant.same) on)

pub loop-preserved : goal.loop-preserved
loop-preserved g c =
    let m = g.A.Atoms.held c.args.atoms.now in
    let s = c.args.store.now in
    let t = reads m s c.args.place in
    let on = subst (λ ps. IsOn m s t c.args.writing.now ps c.loop.writing) c.in-Some.ensures.items c.loop.invariant.on in
    let next =
    c.in_ok-put_first.ensures.on t c.args.writing.now
    (subst (λ k. IsOn k s t c.args.writing.now (c.pop.new.self.items ++ c.in-Some.next ∷ []) c.loop.writing) (sym c.loop.invariant.same) on) in
    record {
      on = subst (λ k. IsOn k s t c.args.writing.now c.put_first.new.places.items c.put_first.new.writing) c.loop.invariant.same next;
      same = c.in_ok-put_first.ensures.same ∙ c.loop.invariant.same;
      refusals = c.in_ok-put_first.ensures.refusals ∙ c.loop.invariant.refusals;
      asked = c.in_ok-put_first.ensures.asked ∙ c.loop.invariant.asked;
    }

pub returns-in_default-clause-none : goal.returns-in_default-clause-none
returns-in_default-clause-none g c =
    let m = g.A.Atoms.held c.args.atoms.now in
    let over : length c.loop.places.items ≡ 0 = omega (arith, c.loop.places.ok.0, c.in_default.ensures.cases.0) in
    c.loop.invariant.on.wanted ∙ ap count (none_ahead m c.args.store.now c.loop.places.items over)

pub returns-in_default-clause-finished : goal.returns-in_default-clause-finished
returns-in_default-clause-finished g c =
    let m = g.A.Atoms.held c.args.atoms.now in
    let over : length c.loop.places.items ≡ 0 = omega (arith, c.loop.places.ok.0, c.in_default.ensures.cases.0) in
    ap (finished c.loop.writing) (sym (none_ahead m c.args.store.now c.loop.places.items over)) ∙ c.loop.invariant.on.same
