use Rattle.std.proofs.Common.{◌≡◌, ◌≤◌, ℕ, List, [], ◌∷◌, ◌++◌, Option, refl, sym, ap, subst, ◌∙◌, arith}
use Rattle.std.specs.Prelude.{length, option_to_list}
use Rattle.std.specs.Vec.Iter.{into_iter_items}
use Rattle.std.proofs.lemmas.List.{length-map}
use Rattle.run_model.specs.Execution.{Word}
use Rattle.run_model.specs.Lawful.{beginnings}
use Rattle.run_model.specs.WholeRuns.{finals_in, told_in}
use Rattle.pl_consult.specs.GoalWords.{word_of, words_of}
use Rattle.run_report.specs.declared.parts.Part.{Part}
use Rattle.toplevel.specs.declared.front.EngineFront.{EngineFront}
use Rattle.toplevel.specs.declared.opened.OpenedEngine.{OpenedEngine}
use Rattle.toplevel.specs.Kept.{AreEngines, EachKept}
use Rattle.toplevel.specs.Mains.{words_kept}
use Rattle.toplevel.specs.Pairs.{TakesGoals}
use Rattle.toplevel.proofs.KeptLaws.{each_kept, kept_so}
use Rattle.toplevel.proofs.KeptMade.{first_covers, first_opened, rest_opened}
use Rattle.toplevel.proofs.kept.kept_of.Goals as goal

pub returns : goal.returns
returns c p board h counted opens begun only once are =
    let name = c.args.name.now in
    let sorted = c.sort_by_key.new.self.items in
    let left = c.pop.new.self.items in
    let first = c.in-Some.first in
    let popped : sorted ≡ left ++ first ∷ [] = c.pop.ensures.items ∙ ap (λ (o : Option OpenedEngine). left ++ option_to_list o) c.in-Some.is in
    let permuted = c.sort_by_key.ensures.permutation in
    let o = first_opened p name board h c.args.opened.items sorted left first permuted popped opens in
    let x = o.carried in
    let m = c.in_ok-main.main in
    let f = c.in_ok-main.front in
    let k = c.in_ok-main.part in
    let main = c.in_ok-main.ensures p board h once o in
    let parts = c.in_ok-others.others.items in
    let ws = words_of (words_kept m) in
    let rest = rest_opened p name board h c.args.opened.items sorted left first permuted popped opens in
    let cover = first_covers p name board h c.args.opened.items sorted left first permuted popped x o.left.number begun in
    let got = c.in_ok-others.ensures p name board h x counted rest cover in
    let fs = got.0 in
    let all : AreEngines p h ws x fs parts = subst (λ (l : List Word). AreEngines p h l x fs parts) c.words_of-2.ensures got.2 in
    let carried = x ∷ all.others in
    let told = told_in h carried in
    let finals = finals_in carried in
    let complete = c.engines_make_it_whole.ensures.complete p h carried only once all.whole in
    let final = c.engines_make_it_whole.ensures.finals p h carried only once all.whole in
    let each = subst (λ (l : List Part). EachKept p told finals ws l) (sym c.into_iter-rest.ensures.rest) (each_kept p name h x m f k fs parts main all once) in
    let taken = c.in_ok-take_goals.ensures p told finals ws (beginnings h) counted are each in
    let put : c.push-2.new.self.items ≡ k ∷ [] = c.in_ok-push-2.ensures.items ∙ ap (λ (l : List Part). l ++ k ∷ []) c.new-engines.ensures.items in
    let goals = subst (λ (l : List Part). TakesGoals p told finals ws (beginnings h) l c.take_goals.new.engines.items) put taken.0 in
    let threads = c.in_ok-threads.ensures p told finals ws (beginnings h) counted are taken.1 in
    let fronts : c.others_of.new.fronts.items ≡ f ∷ fs =
    got.1 ∙ ap (λ (l : List EngineFront). l ++ fs) (c.in_ok-push.ensures.items ∙ ap (λ (l : List EngineFront). l ++ f ∷ []) c.new-fronts.ensures.items) in
    let few : length ws ≤ length p.words = omega (arith, c.if-words_of-goals.false, counted, ap (λ (l : List Word). length l) c.words_of.ensures, length-map c.words_of.result.now word_of) in
    kept_so p name h x m f k fs parts main all once _ goals threads few complete final refl fronts
