use Rattle.std.proofs.Common.{◌≡◌, ◌+◌, ◌≤◌, List, [], ◌∷◌, ◌++◌}
use Rattle.atom_words.specs.Layout.{closed_of, version_of, row_first}
use Rattle.atom_words.specs.Kinds.{after}
use Rattle.atom_words.specs.Seats.{seen, Fits, Same}
use Rattle.atom_words.specs.declared.kind.Kind.{Kind}
use Rattle.atom_words.specs.declared.kind.Kind.TheVariants.{Start}
use Rattle.bucket_rows.specs.RowChanges.{RowKinds, Closes}
use Rattle.bucket_rows.proofs.closing.close_next.Given as goal

abbrev pub invariant-loop-i : goal.invariant-loop-i
invariant-loop-i l = record {
  same : Same l.fn.seat l.seat;
  fits : Fits l.words l.seat;
  steps : (ks : List Kind) × RowKinds ks × (seen l.seat ≡ after (seen l.fn.seat) (ks ++ Start (row_first l.row + l.shut) l.word ∷ []));
  rows : Closes l.row l.shut l.shut (seen l.fn.seat) (seen l.seat);
  unclosed : closed_of l.word ≡ 0;
  at : (l.seat.head ≡ row_first l.row + l.shut) × (l.seat.word ≡ l.word);
  count : l._i ≤ version_of l.word;
}
