-- A test that is asked only where another holds: what it says then, and false elsewhere.
use mathlib.Core.Path.{◌≡◌, refl}
use mathlib.Core.Bool.{Bool, true, false, ◌&&◌}

pub asked : (p x r : Bool) → p ≡ true → r ≡ x → r ≡ (p && x)
asked p x r e h = rw (e, h)

pub unasked : (p x : Bool) → p ≡ false → false ≡ (p && x)
unasked p x e = rw e
