-- A queue or a thread is found by a term.
use Rattle.std.proofs.Common.{◌≡◌, Option, Some, None, Bool, true, false, refl, sym, ◌∙◌}
use Rattle.std.specs.Prelude.{is_some, option_map}
use Rattle.pl_term.specs.Tree.{Tree}
use Rattle.pl_model.specs.declared.threads.Thread.{Thread}
use Rattle.pl_model.specs.Threads.{Queue}

pub no_queue_is : (o : Option (Queue Tree)) (b : Bool) → b ≡ is_some o → b ≡ false → o ≡ None
no_queue_is None b e f = refl
no_queue_is (Some q) b e f = absurd (let g : false ≡ true = sym f ∙ e in cc)

pub no_thread_is : {X : Type 0} (f : Thread Tree → X) (o : Option (Thread Tree)) → None ≡ option_map f o → o ≡ None
no_thread_is f None e = refl
no_thread_is f (Some h) e = absurd (let g : None ≡ Some (f h) = e in cc)
