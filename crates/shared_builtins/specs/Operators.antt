-- Specifiers of operators by the numbers of the fixed atoms.
use Rattle.std.specs.Prelude.{ℕ, ◌==◌, Option, Some, None, if◌then◌else◌}
use Rattle.pl_model.specs.declared.operators.Kind.{Kind}
use Rattle.pl_model.specs.declared.operators.Kind.TheVariants.{Xfx, Xfy, Yfx, Fy, Fx, Xf, Yf}
use Rattle.atom_api.specs.FixedNames.{fx_name, fy_name, xf_name, xfx_name, xfy_name, yf_name, yfx_name}

abbrev pub kind_named : ℕ → Option Kind
kind_named a =
    if a == xfx_name then Some Xfx else
    if a == xfy_name then Some Xfy else
    if a == yfx_name then Some Yfx else
    if a == fy_name then Some Fy else
    if a == fx_name then Some Fx else
    if a == xf_name then Some Xf else
    if a == yf_name then Some Yf else None

abbrev pub name_of : Kind → ℕ
name_of Xfx = xfx_name
name_of Xfy = xfy_name
name_of Yfx = yfx_name
name_of Fy = fy_name
name_of Fx = fx_name
name_of Xf = xf_name
name_of Yf = yf_name
