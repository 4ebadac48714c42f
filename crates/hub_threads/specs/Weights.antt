-- What is stored, weighed: messages, goals, and the balls and terms of statuses, each by a weight of its own. So the weight
-- that is 1 for one of them and 0 for each other counts how often it is stored.
use Rattle.std.specs.Prelude.{◌≡◌, ℕ, suc, ◌+◌, ◌≤◌, Bool, Option, Some, None, false}
use Rattle.std.specs.List.{sum_by}
use Rattle.pl_term.specs.Tree.{Chars}
use Rattle.pl_term.specs.Variables.{is_in}
use Rattle.pl_model.specs.declared.threads.Message.{Message}
use Rattle.pl_model.specs.declared.threads.Status.{Status}
use Rattle.pl_model.specs.declared.threads.Status.TheVariants.{Exception, Exited}
use Rattle.pl_model.specs.declared.threads.Thread.{Thread}
use Rattle.pl_model.specs.Threads.{Queue, counted, first_message, queue_numbered, thread_numbered, queue_made, queue_dropped, message_sent, message_taken, thread_ended, thread_joined}
use Rattle.hub_threads.specs.Held.{Held, IsNew, IsNewPlace, contents, goal_of, own_contents, started, without_goal}

module _ {M : Type 0} (w : M → ℕ) where
  abbrev pub weigh_queue : Queue M → ℕ
  weigh_queue q = sum_by w (contents q.messages)

  abbrev pub weigh_how : Status M → ℕ
  weigh_how (Exception b) = w b
  weigh_how (Exited t) = w t
  weigh_how _ = 0

  abbrev pub weigh_status : Option (Status M) → ℕ
  weigh_status None = 0
  weigh_status (Some s) = weigh_how s

  abbrev pub weigh_thread : Thread M → ℕ
  weigh_thread t = weigh_status t.status

  abbrev pub weigh_goal : ℕ × M → ℕ
  weigh_goal g = w g.1

  -- ALL THAT IS STORED
  abbrev pub weigh : Held M → ℕ
  weigh h = sum_by weigh_queue h.state.queues + (sum_by weigh_thread h.state.threads + sum_by weigh_goal h.goals)

  -- Nothing that is stored is lost or made: what a change puts in is gained, what it hands out or drops is lost, and no more,
  -- whatever each weighs.
  pub record KeepsAll (h : Held M) : Type 0 where
    pub made : (n : ℕ) (a : Option Chars) → weigh (record h { state = queue_made n a h.state }) ≡ weigh h
    pub dropped : (n : ℕ) (q : Queue M) → queue_numbered h.state n ≡ Some q → weigh h ≡ sum_by w (contents q.messages) + weigh (record h { state = queue_dropped n h.state })
    pub sent : (n k : ℕ) (m : M) (q : Queue M) → queue_numbered h.state n ≡ Some q → weigh (record h { state = message_sent n k m h.state }) ≡ w m + weigh h
    pub taken : (n : ℕ) (q : Queue M) (test : M → Bool) (m : Message M) → queue_numbered h.state n ≡ Some q → first_message test q ≡ Some m → weigh h ≡ w m.content + weigh (record h { state = message_taken m.place h.state })
    pub started : (n : ℕ) (goal : M) (a : Option Chars) → weigh (started n goal a h) ≡ w goal + weigh h
    pub goal : (n : ℕ) (m : M) → goal_of n h ≡ Some m → weigh h ≡ w m + weigh (without_goal n h)
    pub ended : (n : ℕ) (how : Status M) (t : Thread M) → thread_numbered h.state n ≡ Some t → t.status ≡ None → weigh (record h { state = thread_ended n how h.state }) + sum_by w (own_contents n h.state) ≡ weigh_how how + weigh h
    pub joined : (n : ℕ) (t : Thread M) → thread_numbered h.state n ≡ Some t → weigh h ≡ weigh_status t.status + weigh (record h { state = thread_joined n h.state })

-- All numbers that are held, or were joined, are below `count`, and all places of messages below `g`.
pub record IsBelow {M : Type 0} (count g : ℕ) (h : Held M) : Type 0 where
  pub numbers : (n : ℕ) → count ≤ n → IsNew n h
  pub unjoined : (n : ℕ) → count ≤ n → is_in n h.state.joined ≡ false
  pub places : (p : ℕ) → g ≤ p → IsNewPlace p h

-- They stay so, where numbers and places are counted upwards.
pub record StaysBelow {M : Type 0} (count g : ℕ) (h : Held M) : Type 0 where
  pub made : (n : ℕ) (a : Option Chars) → IsBelow (counted n count) g (record h { state = queue_made n a h.state })
  pub dropped : (n : ℕ) → IsBelow count g (record h { state = queue_dropped n h.state })
  pub sent : (n : ℕ) (m : M) → IsBelow count (suc g) (record h { state = message_sent n g m h.state })
  pub taken : (p : ℕ) → IsBelow count g (record h { state = message_taken p h.state })
  pub started : (n : ℕ) (goal : M) (a : Option Chars) → IsBelow (counted n count) g (started n goal a h)
  pub goal : (n : ℕ) → IsBelow count g (without_goal n h)
  pub ended : (n : ℕ) (how : Status M) → IsBelow count g (record h { state = thread_ended n how h.state })
  pub joined : (n : ℕ) (t : Thread M) → thread_numbered h.state n ≡ Some t → IsBelow count g (record h { state = thread_joined n h.state })
  pub later : (c k : ℕ) → count ≤ c → g ≤ k → IsBelow c k h
