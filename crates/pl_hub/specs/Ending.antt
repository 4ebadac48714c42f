-- The end of an engine.
use Rattle.std.specs.Prelude.{◌≡◌, ℕ, [], ◌∷◌, ◌++◌, true, length}
use Rattle.atomic_table.specs.Seated.{TableId}
use Rattle.pl_model.specs.History.{History, Kind, mine}
use Rattle.pl_history.specs.Fronts.{FrontState, gains, has_end, own_engine, own_updates}
use Rattle.world_api.specs.Told.{Follows}
use Rattle.world_api.specs.Answers.{seen_as}
use Rattle.pl_hub.specs.Fronts.{told_of}
use Rattle.pl_hub.specs.Settling.{entry}

-- the fronts after the entry
abbrev pub hub_closed : ℕ → Kind → FrontState → FrontState
hub_closed e k f = record f { seen = f.seen ++ entry e k ∷ [] }

abbrev pub front_closed : ℕ → Kind → History → FrontState → FrontState
front_closed e k h f = record f { seen = h ++ entry e k ∷ []; lives = gains (entry e k) (length h) f.lives }

-- THE FRONT IS OF THE HISTORY'S TABLE, and its own engine is the one with the number, which has ended: its updates are those that it has in what the front has seen
pub record IsOver (t : TableId) (e : ℕ) (f : FrontState) : Type 0 where
  pub table : f.table ≡ t
  pub engine : own_engine f.lives ≡ e
  pub ended : has_end (own_updates f.lives) ≡ true
  pub updates : own_updates f.lives ≡ mine f.seen e

-- THE ENGINE HAS ENDED after all entries that the hub's front had seen: the history has its end, and no other entry more; it has seen it, and its list of generations is as it was
pub record IsEnded (goals e : ℕ) (k : Kind) (f g hub new : FrontState) : Type 0 where
  pub follows : Follows e f.seen hub.seen
  pub told : told_of goals g ≡ seen_as (told_of goals f) (hub.seen ++ entry e k ∷ []) (told_of goals f).gens
  pub history : new.seen ≡ g.seen
  pub carried : new.lives ≡ hub.lives
  pub over : IsOver f.table e g
