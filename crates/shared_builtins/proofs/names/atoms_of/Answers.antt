use Rattle.std.proofs.Common.{◌<◌, ◌++◌, length, map, sym, ap, subst, IsSome, refl, ◌∙◌, arith}
use Rattle.std.specs.List.{All}
use Rattle.std.proofs.lemmas.List.{at_drop_all}
use Rattle.std.proofs.lemmas.List.Elements.{All-get_or, All-nil, All-push}
use Rattle.pl_model.specs.Checks.{atoms_error, text_of_atom}
use Rattle.world_api.specs.Texts.{text_of}
use Rattle.world_builtins.specs.Naming.{IsHeldAt}
use Rattle.world_builtins.specs.Spelling.{reads}
use Rattle.shared_builtins.specs.Faults.{fault_term}
use Rattle.shared_builtins.proofs.Naming.{first_refused, more_errors, more_texts, texts_end}
use Rattle.shared_builtins.proofs.names.atoms_of.Goals as goal

pub loop-place-init : goal.loop-place-init
loop-place-init c m n held =
    let ts = c.args.terms.now in (
      refl,
      (
        sym (ap (λ xs. map (text_of m) xs ++ map text_of_atom (map (reads m c.args.store.now) ts)) c.new-names.ensures.items),
        subst (All (λ a. IsSome (m a))) (sym c.new-names.ensures.items) (All-nil (λ a. IsSome (m a))),
      ),
    )

pub returns-in-Err : goal.returns-in-Err
returns-in-Err c m n held =
    let s = c.args.store.now in
    let ts = c.args.terms.now in
    let lt : c.loop-place.place-index < length ts = omega arith in
    let h = c.in-Err.ensures m n (All-get_or (IsHeldAt m s) ts c.loop-place.place-index _ lt held) in
    (first_refused m s ts c.loop-place.place-index _ (fault_term m s c.in-Err.fault) (atoms_error (map (reads m s) ts)) lt h.0 (c.loop-place.invariant m n held).0, h.1)

pub loop-place-preserved : goal.loop-place-preserved
loop-place-preserved c m n held =
    let s = c.args.store.now in
    let ts = c.args.terms.now in
    let lt : c.loop-place.place-index < length ts = omega arith in
    let i = c.loop-place.invariant m n held in
    let h = c.in-Ok.ensures m n (All-get_or (IsHeldAt m s) ts c.loop-place.place-index _ lt held) in (
      more_errors m s ts c.loop-place.place-index _ c.in-Ok.name (atoms_error (map (reads m s) ts)) lt h.0 i.0,
      (
        more_texts m s ts c.loop-place.place-index _ c.in-Ok.name c.loop-place.names.items c.push.new.self.items (map text_of_atom (map (reads m s) ts)) lt h.0 c.in_ok-push-in-Ok.ensures.items i.1.0,
        subst (All (λ a. IsSome (m a))) (sym c.in_ok-push-in-Ok.ensures.items) (All-push (λ a. IsSome (m a)) c.loop-place.names.items c.in-Ok.name i.1.1 h.1),
      ),
    )

pub returns : goal.returns
returns c m n held =
    let s = c.args.store.now in
    let ts = c.args.terms.now in
    let i = c.loop-place.invariant m n held in (
      i.0 ∙ (at_drop_all (λ xs. atoms_error (map (reads m s) xs)) ts c.loop-place.place-index (omega arith)),
      (
        texts_end (map (text_of m) c.loop-place.names.items) _ (map text_of_atom (map (reads m s) ts)) i.1.0
            (at_drop_all (λ xs. map text_of_atom (map (reads m s) xs)) ts c.loop-place.place-index (omega arith)),
        i.1.1,
      ),
    )
