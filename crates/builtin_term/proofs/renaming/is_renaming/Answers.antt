use Rattle.std.proofs.Common.{◌≡◌, ◌<◌, length, get_or, subst, arith}
use Rattle.std.proofs.lemmas.List.{get_or_default}
use Rattle.std.specs.BTreeMap as tree
use Rattle.std.specs.Ordering.{nat_cmp}
use Rattle.term_store.specs.Contents.{term_at}
use Rattle.builtin_term.specs.Renaming.{Owns}
use Rattle.builtin_term.specs.declared.met_variables.Met.{Met}
use Rattle.builtin_term.proofs.Owners.{no_met, no_renaming, owned_more, owners_more, renaming_all}
use Rattle.builtin_term.proofs.renaming.is_renaming.Goals as goal

pub returns-then-not-branch : goal.returns-then-not-branch
returns-then-not-branch c =
    let s = c.args.store.now in
    let es = c.args.met.now in
    let e : Met = get_or es c.loop-i.i no_met in
    let lt : c.loop-i.i < length es = omega arith in
    let at : e ≡ get_or es c.loop-i.i e = get_or_default es c.loop-i.i no_met e lt in
    no_renaming s es c.loop-i.i e (tree.get nat_cmp c.loop-i.owners) (tree.get nat_cmp c.is_own.new.owners) lt at
    (subst (λ b. Owns b (term_at s e.place) e.number (tree.get nat_cmp c.loop-i.owners) (tree.get nat_cmp c.is_own.new.owners)) c.if-not-branch.true
    c.in_ok-is_own.ensures)
    c.loop-i.invariant.owners

pub loop-i-preserved : goal.loop-i-preserved
loop-i-preserved c =
    let s = c.args.store.now in
    let es = c.args.met.now in
    let e : Met = get_or es c.loop-i.i no_met in
    let lt : c.loop-i.i < length es = omega arith in
    let at : e ≡ get_or es c.loop-i.i e = get_or_default es c.loop-i.i no_met e lt in
    let o = subst (λ b. Owns b (term_at s e.place) e.number (tree.get nat_cmp c.loop-i.owners) (tree.get nat_cmp c.is_own.new.owners)) c.if-not-branch.false
    c.in_ok-is_own.ensures in
    record {
      owned = owned_more s (tree.get nat_cmp c.loop-i.owners) (tree.get nat_cmp c.is_own.new.owners) es c.loop-i.i e lt at o c.loop-i.invariant.owned;
      owners =
          owners_more s (tree.get nat_cmp c.loop-i.owners) (tree.get nat_cmp c.is_own.new.owners) es c.loop-i.i e lt at o
          c.loop-i.invariant.owners;
    }

pub returns : goal.returns
returns c =
    renaming_all c.args.store.now c.args.met.now c.loop-i.i (tree.get nat_cmp c.loop-i.owners) (omega arith) c.loop-i.invariant.owned
