-- What contracts see of a sink in memory, and how it answers.
use Rattle.std.specs.Prelude.{◌+◌, ◌&&◌, ◌||◌, ◌==◌, ℕ, Bool, List, length, min, nat_lt}
use Rattle.std.specs.List.{list_any}
use Rattle.pl_io.specs.Faults.{one_more}

pub record MemorySinkState : Type 0 where
  -- the bytes written
  pub written : List ℕ
  -- how many bytes the sink holds at most, and how many a call takes at most
  pub room : ℕ
  pub most : ℕ
  -- how many calls there were, and which are to fail, counted from 0
  pub calls : ℕ
  pub failing : List ℕ
  -- how many calls failed
  pub faults : ℕ

-- how many bytes of a piece a call takes if it does not fail
abbrev pub takes : MemorySinkState → List ℕ → ℕ
takes s piece = min (length piece) s.most

-- a call fails: it is one of those that are to fail, or the bytes do not fit in, or it would take none of a piece
abbrev pub refuses : MemorySinkState → List ℕ → Bool
refuses s piece =
    list_any (λ call. call == s.calls) s.failing
    || nat_lt s.room (length s.written + takes s piece)
    || (takes s piece == 0 && nat_lt 0 (length piece))

-- the state with one call more
abbrev pub at_call : MemorySinkState → MemorySinkState
at_call s = record s { calls = one_more s.calls }
