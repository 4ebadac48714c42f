use Rattle.std.proofs.Common.{[], sym, subst, ap, arith}
use Rattle.std.proofs.lemmas.Result.{IfOk-weaker}
use Rattle.pl_term.specs.Tree.{Tree}
use Rattle.pl_model.specs.Threads.{opening_count}
use Rattle.hub_threads.specs.Held.{Held, opening_held}
use Rattle.hub_threads.specs.Threads.{IsThreads}
use Rattle.hub_threads.specs.Weights.{IsBelow, weigh}
use Rattle.hub_threads.proofs.Below.{opening_below, stays_below}
use Rattle.hub_threads.proofs.OtherUpdates.{opening_stands}
use Rattle.hub_threads.proofs.laws.open_queues.Goals as goal

pub returns-clause-says : goal.returns-clause-says
returns-clause-says c = IfOk-weaker c.new.result _ _ (λ q is. λ k goals. subst (λ (z : Held Tree). IsThreads k z (opening_count goals) goals []) (sym is) (opening_stands k goals)) c.new.ensures

pub returns-clause-below : goal.returns-clause-below
returns-clause-below c = IfOk-weaker c.new.result _ _ (λ q is. λ count g two. subst (λ (z : Held Tree). IsBelow count g z) (sym is) ((stays_below 2 0 opening_held opening_below).later count g two (omega arith))) c.new.ensures

pub returns-clause-none : goal.returns-clause-none
returns-clause-none c = IfOk-weaker c.new.result _ _ (λ q is. λ w. ap (weigh w) is) c.new.ensures
