use Rattle.std.proofs.Common.{◌≡◌, ◌+◌, ◌∷◌, ◌++◌, [], List, take, sym, ap, subst, append-nil, ◌∙◌}
use Rattle.std.proofs.lemmas.List.{take_all, take_more}
use Rattle.pl_term.specs.Tree.{Chars}
use Rattle.term_store.specs.declared.words.Place.{Place}
use Rattle.builtin_atom.specs.Listed.{AreListedAt, IsElement}
use Rattle.builtin_atom.proofs.ListedLaws.{asked_more, listed_more, none_handed}
use Rattle.builtin_atom.proofs.listed.make_elements.Goals as goal

pub returns-in_err-next-clause-asked : goal.returns-in_err-next-clause-asked
returns-in_err-next-clause-asked g c =
    asked_more c.args.form c.args.text.now c.loop-c.c-index c.c-item.result _ _ _ c.c-item.is c.loop-c-test.true c.loop-c.invariant.asked c.make_element.ensures.asked

pub returns-in_err-push-in-At-clause-asked : goal.returns-in_err-push-in-At-clause-asked
returns-in_err-push-in-At-clause-asked g c =
    asked_more c.args.form c.args.text.now c.loop-c.c-index c.c-item.result _ _ _ c.c-item.is c.loop-c-test.true c.loop-c.invariant.asked c.make_element.ensures.asked

pub returns-in-Refused-clause-asked : goal.returns-in-Refused-clause-asked
returns-in-Refused-clause-asked g c =
    asked_more c.args.form c.args.text.now c.loop-c.c-index c.c-item.result _ _ _ c.c-item.is c.loop-c-test.true c.loop-c.invariant.asked c.make_element.ensures.asked

pub loop-c-preserved : goal.loop-c-preserved
loop-c-preserved g c =
    let form = c.args.form in
    let cs = c.args.text.now in
    let i = c.loop-c.c-index in
    let x = c.c-item.result in
    let m = g.A.Atoms.held c.loop-c.atoms in
    let n = g.A.Atoms.held c.make_element.new.atoms in
    let old = g.A.Atoms.refusals c.loop-c.atoms in
    let inv = c.loop-c.invariant in
    let p = c.in-At.place in
    let ps = c.loop-c.places.items in
    let grown : take (i + 1) cs ≡ take i cs ++ x ∷ [] = take_more cs i x c.loop-c-test.true ∙ ap (λ y. take i cs ++ y ∷ []) (sym c.c-item.is) in
    record {
      holds = λ a t h. c.make_element.ensures.holds a t (inv.holds a t h);
      refusals =
          c.make_element.ensures.refusals
          ∙ ap (λ l. old ++ l) (none_handed c.make_element.result c.in_ok-next.next p c.in_ok-next.was c.in-At.is) ∙ append-nil old ∙ inv.refusals;
      asked = asked_more form cs i x _ _ _ c.c-item.is c.loop-c-test.true inv.asked c.make_element.ensures.asked;
      listed = λ s.
          subst (λ (ts : Chars). AreListedAt form n ts c.push.new.self.items s) (sym grown)
          (subst (λ (qs : List Place). AreListedAt form n (take i cs ++ x ∷ []) qs s) (sym c.in_ok-push-in-At.ensures.items)
          (listed_more form m n c.make_element.ensures.holds s (take i cs) ps x p (inv.listed s)
          (subst (λ e. IsElement form n x e) c.in-At.is c.in_ok-next.ensures.element s)));
    }

pub returns-clause-listed : goal.returns-clause-listed
returns-clause-listed g c s =
    subst (λ (ts : Chars). AreListedAt c.args.form (g.A.Atoms.held c.loop-c.atoms) ts c.loop-c.places.items s)
    (take_all c.loop-c.c-index c.args.text.now c.loop-c-test.false) (c.loop-c.invariant.listed s)
