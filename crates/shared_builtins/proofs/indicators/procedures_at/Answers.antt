use Rattle.std.proofs.Common.{◌<◌, length, map, sym, ap, subst, IsSome, arith}
use Rattle.std.specs.List.{All}
use Rattle.std.proofs.lemmas.List.{at_drop_all}
use Rattle.std.proofs.lemmas.List.Elements.{All-get_or, All-nil, All-push}
use Rattle.pl_model.specs.Checks.{all_indicated}
use Rattle.world_api.specs.declared.visit.Procedure.{Procedure}
use Rattle.world_api.specs.Texts.{text_of}
use Rattle.world_api.specs.Visits.{proc_named}
use Rattle.world_builtins.specs.Naming.{IsHeldAt}
use Rattle.world_builtins.specs.Spelling.{reads}
use Rattle.shared_builtins.specs.Indicators.{with_procs}
use Rattle.shared_builtins.proofs.Indicating.{one_more_proc, one_refused, procs_end}
use Rattle.shared_builtins.proofs.indicators.procedures_at.Goals as goal

pub loop-place-init : goal.loop-place-init
loop-place-init c m n held =
    let s = c.args.store.now in
    let ts = c.args.terms.now in (
      sym (ap (λ xs. with_procs (map (proc_named (text_of m)) xs) (all_indicated (map (reads m s) ts))) c.new-all.ensures.items),
      subst (All (λ (q : Procedure). IsSome (m q.name))) (sym c.new-all.ensures.items) (All-nil (λ (q : Procedure). IsSome (m q.name))),
    )

pub returns-in-Err : goal.returns-in-Err
returns-in-Err c m n held =
    let s = c.args.store.now in
    let ts = c.args.terms.now in
    let lt : c.loop-place.place-index < length ts = omega arith in
    one_refused m s ts c.loop-place.place-index _ c.loop-place.all.items c.in-Err.fault (all_indicated (map (reads m s) ts)) lt (c.loop-place.invariant m n held).0
    (c.in-Err.ensures m n (All-get_or (IsHeldAt m s) ts c.loop-place.place-index _ lt held))

pub loop-place-preserved : goal.loop-place-preserved
loop-place-preserved c m n held =
    let s = c.args.store.now in
    let ts = c.args.terms.now in
    let lt : c.loop-place.place-index < length ts = omega arith in
    let i = c.loop-place.invariant m n held in
    let h = c.in-Ok.ensures m n (All-get_or (IsHeldAt m s) ts c.loop-place.place-index _ lt held) in (
      one_more_proc m s ts c.loop-place.place-index _ c.loop-place.all.items c.push.new.self.items c.in-Ok.procedure (all_indicated (map (reads m s) ts)) lt c.in_ok-push-in-Ok.ensures.items i.0 h,
      subst (All (λ (q : Procedure). IsSome (m q.name))) (sym c.in_ok-push-in-Ok.ensures.items) (All-push (λ (q : Procedure). IsSome (m q.name)) c.loop-place.all.items c.in-Ok.procedure i.1 h.1),
    )

pub returns : goal.returns
returns c m n held =
    let s = c.args.store.now in
    let ts = c.args.terms.now in
    let i = c.loop-place.invariant m n held in (
      procs_end (map (proc_named (text_of m)) c.loop-place.all.items) (all_indicated (map (reads m s) ts)) _ i.0
          (at_drop_all (λ xs. all_indicated (map (reads m s) xs)) ts c.loop-place.place-index (omega arith)),
      i.1,
    )
