use Rattle.std.proofs.Common.{◌≡◌, ◌++◌, ◌∷◌, [], ◌+◌, map, refl, sym, ap, subst, take, arith, ◌∙◌}
use Rattle.std.specs.List.{All}
use Rattle.std.proofs.lemmas.List.{take_all, take_more}
use Rattle.pl_report.specs.Bindings.{HasBindings}
use Rattle.world_builtins.specs.Naming.{IsHeldAt}
use Rattle.world_builtins.specs.Spelling.{reads}
use Rattle.engine_run.proofs.shown.put_bindings.Goals as goal

pub loop-named-init : goal.loop-named-init
loop-named-init g c = record { bound = λ t h. h; same = refl; refusals = refl }

pub put_next-requires-clause-held : goal.put_next-requires-clause-held
put_next-requires-clause-held g c =
    subst (λ m. All (IsHeldAt m c.args.store.now) c.args.places.now) (sym c.loop-named.invariant.same) c.requires.held

pub loop-named-preserved : goal.loop-named-preserved
loop-named-preserved g c =
    let m = g.A.Atoms.held c.args.atoms.now in
    let s = c.args.store.now in
    let ps = c.args.places.now in
    let ops = c.args.operators.now in
    let ns = c.args.names.now in
    let i = c.loop-named.named-index in
    let n = c.named-item.result in
    let more : take (i + 1) ns ≡ take i ns ++ n ∷ [] =
    take_more ns i n c.loop-named-test.true ∙ ap (λ x. take i ns ++ x ∷ []) (sym c.named-item.is) in
    record {
      bound = λ t h.
          let before = subst (λ k. HasBindings t ops (map (reads k s) ps) (take i ns) c.loop-named.some c.loop-named.out.items) (sym c.loop-named.invariant.same)
          (c.loop-named.invariant.bound t h) in
          subst (λ xs. HasBindings t ops (map (reads m s) ps) xs c.in_ok-some.some c.put_next.new.out.items) (sym more)
          (subst (λ k. HasBindings t ops (map (reads k s) ps) (take i ns ++ n ∷ []) c.in_ok-some.some c.put_next.new.out.items) c.loop-named.invariant.same
          (c.in_ok-some.ensures.bound t (take i ns) before));
      same = c.in_ok-some.ensures.same ∙ c.loop-named.invariant.same;
      refusals = c.in_ok-some.ensures.refusals ∙ c.loop-named.invariant.refusals;
    }

pub returns-clause-bound : goal.returns-clause-bound
returns-clause-bound g c t h =
    let ts = map (reads (g.A.Atoms.held c.args.atoms.now) c.args.store.now) c.args.places.now in
    subst (λ ns. HasBindings t c.args.operators.now ts ns c.loop-named.some c.loop-named.out.items)
    (take_all c.loop-named.named-index c.args.names.now (omega (arith, c.loop-named-test.false))) (c.loop-named.invariant.bound t h)
