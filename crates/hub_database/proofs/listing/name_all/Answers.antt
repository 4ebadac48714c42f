use Rattle.std.proofs.Common.{◌<◌, ◌++◌, ◌∷◌, [], Some, List, map, length, refl, sym, ap, subst, ◌∙◌, arith, append-nil}
use Rattle.std.specs.Prelude.{IsSome}
use Rattle.std.specs.List.{All}
use Rattle.std.proofs.lemmas.List.{take_all}
use Rattle.std.proofs.lemmas.List.Elements.{All-nil}
use Rattle.pl_model.specs.declared.shows.Proc.{Proc as Shown}
use Rattle.pl_model.specs.laws.Shown.{proc_of}
use Rattle.atom_words.specs.Seats.{seen}
use Rattle.atom_table.specs.Naming.{names, requests}
use Rattle.world_api.specs.Texts.{text_of}
use Rattle.world_api.specs.Visits.{proc_named}
use Rattle.world_api.specs.declared.visit.Procedure.{Procedure}
use Rattle.hub_database.specs.Listing.{AsksOne}
use Rattle.hub_database.proofs.ListedProcedures.{lists_more, name_among, named_more, names_all, none_asked, one_asked, same_at}
use Rattle.hub_database.proofs.listing.name_all.Goals as goal

pub loop-i-init : goal.loop-i-init
loop-i-init g c = record {
  holds = λ k t e. e;
  refusals = refl;
  named = subst (λ (l : List Procedure). All (λ (p : Procedure). IsSome (names (seen c.args.atoms.now.seat) p.name)) l) (sym c.new-found.ensures.items) (All-nil (λ (p : Procedure). IsSome (names (seen c.args.atoms.now.seat) p.name)));
  lists = ap (λ (l : List Procedure). map (proc_named (text_of (names (seen c.args.atoms.now.seat)))) l) c.new-found.ensures.items;
  asked = none_asked (map proc_of c.args.ps.now) (requests (seen c.args.atoms.now.seat));
}

pub loop-i-preserved : goal.loop-i-preserved
loop-i-preserved g c =
    let inv = c.loop-i.invariant in
    let m = names (seen c.loop-i.atoms.seat) in
    let n = names (seen c.atom_of.new.atoms.seat) in
    let x = c.index-ps-i.result in
    let low : c.loop-i.i < length c.args.ps.now = omega (arith, c.loop-i-test.true) in
    let same = same_at c.args.ps.now c.loop-i.i c.index-ps-i-in-Ok.result x low c.index-ps-i-in-Ok.is c.index-ps-i.is in
    let more = c.in-Ok-push.ensures.items ∙ ap (λ (z : Shown). c.loop-i.found.items ++ record { name = c.in-Ok.name; arity = z.arity } ∷ []) (sym c.index-ps-i-in-Ok.is ∙ same) in
    let here = c.in-Ok.ensures.atom ∙ ap (λ (z : Shown). Some z.name) (sym c.index-ps-i.is) in record {
      holds = λ k t e. c.atom_of.ensures.holds k t (inv.holds k t e);
      refusals = c.in-Ok.ensures.refusals ∙ (append-nil (seen c.loop-i.atoms.seat).refusals ∙ inv.refusals);
      named = named_more m n c.atom_of.ensures.holds c.loop-i.found.items c.push.new.self.items inv.named c.in-Ok.name x here more;
      lists = lists_more m n c.atom_of.ensures.holds c.loop-i.found.items c.push.new.self.items inv.named c.in-Ok.name x here more c.args.ps.now c.loop-i.i low c.index-ps-i.is inv.lists;
      asked = one_asked (map proc_of c.args.ps.now) (requests (seen c.args.atoms.now.seat)) (requests (seen c.loop-i.atoms.seat)) (requests (seen c.atom_of.new.atoms.seat)) c.index-ps-i.result.name
          (name_among c.args.ps.now c.loop-i.i c.index-ps-i.result (omega (arith, c.loop-i-test.true)) c.index-ps-i.is) c.loop-i.invariant.asked
          (subst (λ (z : Shown). AsksOne z.name (requests (seen c.loop-i.atoms.seat)) (requests (seen c.atom_of.new.atoms.seat))) (sym c.index-ps-i.is) c.atom_of.ensures.asked);
    }

pub returns : goal.returns
returns g c = record {
  holds = c.loop-i.invariant.holds;
  refusals = c.loop-i.invariant.refusals ∙ sym (append-nil (seen c.args.atoms.now.seat).refusals);
  named = names_all (names (seen c.loop-i.atoms.seat)) c.loop-i.found.items c.loop-i.invariant.named;
  asked = c.loop-i.invariant.asked;
  lists = c.loop-i.invariant.lists ∙ ap (λ (l : List Shown). map proc_of l) (take_all c.loop-i.i c.args.ps.now (omega (arith, c.loop-i-test.false)));
}

pub returns-in_default-clause-asked : goal.returns-in_default-clause-asked
returns-in_default-clause-asked g c =
    one_asked (map proc_of c.args.ps.now) (requests (seen c.args.atoms.now.seat)) (requests (seen c.loop-i.atoms.seat)) (requests (seen c.atom_of.new.atoms.seat)) c.index-ps-i.result.name
    (name_among c.args.ps.now c.loop-i.i c.index-ps-i.result (omega (arith, c.loop-i-test.true)) c.index-ps-i.is) c.loop-i.invariant.asked
    (subst (λ (z : Shown). AsksOne z.name (requests (seen c.loop-i.atoms.seat)) (requests (seen c.atom_of.new.atoms.seat))) (sym c.index-ps-i.is) c.atom_of.ensures.asked)

pub returns-in-Err-clause-asked : goal.returns-in-Err-clause-asked
returns-in-Err-clause-asked g c =
    one_asked (map proc_of c.args.ps.now) (requests (seen c.args.atoms.now.seat)) (requests (seen c.loop-i.atoms.seat)) (requests (seen c.atom_of.new.atoms.seat)) c.index-ps-i.result.name
    (name_among c.args.ps.now c.loop-i.i c.index-ps-i.result (omega (arith, c.loop-i-test.true)) c.index-ps-i.is) c.loop-i.invariant.asked
    (subst (λ (z : Shown). AsksOne z.name (requests (seen c.loop-i.atoms.seat)) (requests (seen c.atom_of.new.atoms.seat))) (sym c.index-ps-i.is) c.atom_of.ensures.asked)
