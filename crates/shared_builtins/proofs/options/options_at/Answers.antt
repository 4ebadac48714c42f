use Rattle.std.proofs.Common.{◌<◌, length, map, sym, ap, subst, Option, IsSome, IfSome, arith}
use Rattle.std.specs.List.{All}
use Rattle.std.proofs.lemmas.List.{at_drop_all}
use Rattle.std.proofs.lemmas.List.Elements.{All-get_or, All-nil}
use Rattle.pl_model.specs.SharedBuiltins.{options_of}
use Rattle.world_api.specs.Texts.{text_of}
use Rattle.world_builtins.specs.Naming.{IsHeldAt}
use Rattle.world_builtins.specs.Spelling.{reads}
use Rattle.shared_builtins.specs.declared.faults.Fault.{Fault}
use Rattle.shared_builtins.specs.Faults.{IsFaultHeld}
use Rattle.shared_builtins.specs.Options.{with_aliases}
use Rattle.shared_builtins.proofs.Opting.{more_options, options_end, wrong_one}
use Rattle.shared_builtins.proofs.options.options_at.Goals as goal

pub loop-place-init : goal.loop-place-init
loop-place-init c m n held =
    let s = c.args.store.now in
    let ts = c.args.terms.now in (
      sym (ap (λ xs. with_aliases (map (text_of m) xs) (options_of (map (reads m s) ts))) c.new-aliases.ensures.items),
      subst (All (λ a. IsSome (m a))) (sym c.new-aliases.ensures.items) (All-nil (λ a. IsSome (m a))),
    )

pub returns-in-Some-clause-options : goal.returns-in-Some-clause-options
returns-in-Some-clause-options c m n held =
    let s = c.args.store.now in
    let ts = c.args.terms.now in
    let lt : c.loop-place.place-index < length ts = omega arith in
    let i = c.loop-place.invariant m n held in
    let here = All-get_or (IsHeldAt m s) ts c.loop-place.place-index _ lt held in
    let h = c.in_ok-wrong.ensures.held m n here i.1 in
    record {
      options = wrong_one m s ts c.loop-place.place-index _ (map (text_of m) c.loop-place.aliases.items) (map (text_of m) c.take_option.new.aliases.items)
          c.in_ok-wrong.wrong c.in-Some.fault (options_of (map (reads m s) ts)) c.in-Some.is lt i.0 (λ rest. c.in_ok-wrong.ensures.took m rest n here);
      held = h.0;
      fault_held = subst (λ (w : Option Fault). IfSome w (IsFaultHeld m s)) c.in-Some.is h.1;
    }

pub loop-place-preserved : goal.loop-place-preserved
loop-place-preserved c m n held =
    let s = c.args.store.now in
    let ts = c.args.terms.now in
    let lt : c.loop-place.place-index < length ts = omega arith in
    let i = c.loop-place.invariant m n held in
    let here = All-get_or (IsHeldAt m s) ts c.loop-place.place-index _ lt held in (
      more_options m s ts c.loop-place.place-index _ (map (text_of m) c.loop-place.aliases.items) (map (text_of m) c.take_option.new.aliases.items)
          c.in_ok-wrong.wrong (options_of (map (reads m s) ts)) c.in_default.not-Some lt i.0 (λ rest. c.in_ok-wrong.ensures.took m rest n here),
      (c.in_ok-wrong.ensures.held m n here i.1).0,
    )

pub returns-clause-options : goal.returns-clause-options
returns-clause-options c m n held =
    let s = c.args.store.now in
    let ts = c.args.terms.now in
    let i = c.loop-place.invariant m n held in
    record {
      options = options_end m s ts c.loop-place.place-index (map (text_of m) c.loop-place.aliases.items) (options_of (map (reads m s) ts))
          (at_drop_all (λ xs. options_of (map (reads m s) xs)) ts c.loop-place.place-index (omega arith)) i.0;
      held = i.1;
      fault_held = tt;
    }
