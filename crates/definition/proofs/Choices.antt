-- What is so of both choices is so of what is chosen, by `when` and by `cond`.
-- Assumes nothing.
use mathlib.Core.Bool.{Bool, true, false, cond}
use mathlib.Core.Path.{◌≡◌, refl}
use Rattle.definition.specs.Choice.{when}

pub when_has : {A : Type 0} (P : A → Type 0) (t : Bool) (f g : Unit {0} → A) → (t ≡ true → P (f tt)) → (t ≡ false → P (g tt)) → P (when t f g)
when_has P true f g h k = h refl
when_has P false f g h k = k refl

pub cond_has : {A : Type 0} (P : A → Type 0) (t : Bool) (x y : A) → (t ≡ true → P x) → (t ≡ false → P y) → P (cond t x y)
cond_has P true x y h k = h refl
cond_has P false x y h k = k refl

-- of two that are chosen by one test
pub when_by : {A B : Type 0} (R : A → B → Type 0) (t : Bool) (f g : Unit {0} → A) (h k : Unit {0} → B) → (t ≡ true → R (f tt) (h tt)) → (t ≡ false → R (g tt) (k tt)) → R (when t f g) (when t h k)
when_by R true f g h k i j = i refl
when_by R false f g h k i j = j refl

pub when_both : {A B : Type 0} (R : A → B → Type 0) (t : Bool) (f g : Unit {0} → A) (h k : Unit {0} → B) → R (f tt) (h tt) → R (g tt) (k tt) → R (when t f g) (when t h k)
when_both R t f g h k i j = when_by R t f g h k (λ _. i) (λ _. j)
