-- How the history goes on by a visit, and what is replied then.
use Rattle.std.proofs.Common.{◌≡◌, ℕ, List, [], ◌++◌, Option, arith, ap, sym, ◌∙◌, append-nil, append_assoc}
use Rattle.std.specs.List.{Contains}
use Rattle.pl_term.specs.Tree.{Chars}
use Rattle.pl_model.specs.History.{Kind, History}
use Rattle.pl_model.specs.Requests.{Request}
use Rattle.pl_model.specs.Service.{entry_by, served_now}
use Rattle.world_api.specs.Told.{Told, Follows}
use Rattle.world_api.specs.Answers.{seen_as}
use Rattle.script_api.specs.Scripts.{IsLater, IsReplied}

pub nothing_in : (c : Chars) → Contains [] c → ⊥
nothing_in c p = let low = p.1 in omega (arith, low)

-- The history goes on.
pub later_same : (t u : Told) → u ≡ t → IsLater t u
later_same t u e =
    record {
      engine = ap (λ (v : Told). v.engine) e;
      goals = ap (λ (v : Told). v.goals) e;
      later = [];
      grown = ap (λ (v : Told). v.history) e ∙ sym (append-nil t.history);
    }

pub later_by : (t u : Told) (before : History) (update : Option Kind) (gens : List ℕ)
    → Follows t.engine t.history before
    → u ≡ seen_as t (before ++ entry_by t.engine update) gens
    → IsLater t u
later_by t u before update gens f e =
    record {
      engine = ap (λ (v : Told). v.engine) e;
      goals = ap (λ (v : Told). v.goals) e;
      later = f.later ++ entry_by t.engine update;
      grown =
          ap (λ (v : Told). v.history) e
          ∙ ap (λ h. h ++ entry_by t.engine update) f.grown
          ∙ append_assoc t.history f.later (entry_by t.engine update);
    }

pub later_then : (t u v : Told) → IsLater t u → IsLater u v → IsLater t v
later_then t u v a b =
    record {
      engine = b.engine ∙ a.engine;
      goals = b.goals ∙ a.goals;
      later = a.later ++ b.later;
      grown = b.grown ∙ ap (λ h. h ++ b.later) a.grown ∙ append_assoc t.history a.later b.later;
    }

-- What is replied later is replied after what the engine had seen before.
pub replied_later : (asks more : Request → Type 0) (t u : Told) (c : Chars)
    → ((q : Request) → more q → asks q)
    → IsLater t u
    → IsReplied more u c
    → IsReplied asks t c
replied_later asks more t u c weaker l r =
    record {
      before = r.before;
      later = l.later ++ r.later;
      follows = r.follows ∙ ap (λ h. h ++ r.later) l.grown ∙ append_assoc t.history l.later r.later;
      request = r.request;
      is = weaker r.request r.is;
      stands =
          record {
            reply = r.stands.reply;
            update = r.stands.update;
            served =
                ap (λ e. served_now e t.goals r.before r.request) (sym l.engine)
                ∙ ap (λ n. served_now u.engine n r.before r.request) (sym l.goals)
                ∙ r.stands.served;
            handed = r.stands.handed;
          };
    }
