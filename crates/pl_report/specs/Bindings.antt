-- The line of a solution, while its bindings are put one after the other.
use Rattle.std.specs.Prelude.{◌≡◌, ℕ, List, [], ◌∷◌, ◌++◌, Bool, true, false, get_or, encode_utf8_all}
use Rattle.pl_term.specs.Tree.{Chars, Tree, atom}
use Rattle.pl_model.specs.OperatorTable.{OperatorTable}
use Rattle.pl_model.specs.TermWriting.{writeq}
use Rattle.run_model.specs.Report.{closed, with_commas}
use Rattle.pl_report.specs.Pieces.{has_any, shown_texts}

-- On a line of their own after the text `t` stand the bindings that are shown of these variables; it is told whether there are some.
pub record HasBindings (t : Chars) (ops : OperatorTable) (ts : List Tree) (ns : List (Chars × ℕ)) (some : Bool) (bytes : List ℕ) : Type 0 where
  pub are : some ≡ has_any (shown_texts ops ts ns)
  pub text : bytes ≡ encode_utf8_all (closed t ++ with_commas (shown_texts ops ts ns))

-- After what was put for one variable more: where it is shown, its value is to follow, and else nothing.
abbrev pub GoesOn : Bool → Chars → OperatorTable → List Tree → List (Chars × ℕ) → Bool → Chars × ℕ → List ℕ → Type 0
GoesOn true t ops ts ns some n bytes =
    (after : List ℕ) → after ≡ bytes ++ encode_utf8_all (writeq ops 699 (get_or ts n.1 (atom []))) → HasBindings t ops ts (ns ++ n ∷ []) true after
GoesOn false t ops ts ns some n bytes = HasBindings t ops ts (ns ++ n ∷ []) some bytes
