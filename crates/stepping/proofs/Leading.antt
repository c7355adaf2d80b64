-- What a statement leads to, by the case.
-- Assumes nothing.
use Rattle.std.proofs.Common.{Ok, Err, Result}
use Rattle.bodies.specs.Types.{Done, Tested}
use mathlib.Core.Path.{◌≡◌}
use mathlib.Core.Bool.{Bool, true, false}
use mathlib.Core.List.{List}
use Prim.Native.Nat.{ℕ}
use borrow.Author.Tests.{eq-eqb, ne_eqb}
use Rattle.definition.specs.declared.Why.{Why}
use Rattle.definition.specs.declared.Why.TheVariants.{WrongName}
use Rattle.meter.specs.declared.Meter.{Meter}
use Rattle.names.specs.declared.Label.{Label}
use Rattle.flow.specs.declared.Frames.{Frames}
use Rattle.flow.specs.declared.Walk.{Walk}
use Rattle.flow.specs.declared.Walk.TheVariants.{Up}
use Rattle.flow.specs.Walks.{chosen_walk, landing_walk}
use Rattle.leaving.specs.declared.Jump.{Jump}
use Rattle.leaving.specs.declared.Jump.TheVariants as J
use Rattle.texts.specs.declared.Progress.{Progress}
use Rattle.texts.specs.Shown.{with_meter}
use Rattle.stepping.specs.declared.Step.TheVariants as St
use Rattle.stepping.specs.declared.Turned.{Turned}
use Rattle.stepping.specs.Ways.{turned_by, refused_at, done_to, tested_to, jumped_to, activated_to, went_to}

-- ---- a statement that was done
module _ (fs : Frames) (n : ℕ) (d : Done) (g : Progress) (m p : ℕ) where
  pub done_good : (k : Meter) → d ≡ Ok k → (j : Progress) → j ≡ with_meter g k → (r : Turned) → r ≡ turned_by fs (Ok (St.On (Up n) j)) → r ≡ done_to fs n d g m p
  done_good k e j ej r er = rw (er, ej, e)

  pub done_bad : (w : Why) (k : Meter) → d ≡ Err (w, k) → (j : Progress) → j ≡ with_meter g k → (r : Turned) → r ≡ refused_at fs j w m p → r ≡ done_to fs n d g m p
  done_bad w k e j ej r er = rw (er, ej, e)

-- ---- IF
module _ (part : List ℕ) (fs : Frames) (n : ℕ) (t : Tested) (g : Progress) (m p : ℕ) where
  pub test_is : (b : Bool) (k : Meter) → t ≡ Ok (b, k) → (x : Walk) → x ≡ chosen_walk part n b → (j : Progress) → j ≡ with_meter g k → (r : Turned) → r ≡ turned_by fs (Ok (St.On x j)) → r ≡ tested_to part fs n t g m p
  test_is b k e x ex j ej r er = rw (er, ej, ex, e)

  pub test_bad : (w : Why) (k : Meter) → t ≡ Err (w, k) → (j : Progress) → j ≡ with_meter g k → (r : Turned) → r ≡ refused_at fs j w m p → r ≡ tested_to part fs n t g m p
  test_bad w k e j ej r er = rw (er, ej, e)

-- ---- GOTO
module _ (part : List ℕ) (fs : Frames) (j : Result Jump Why) (g : Progress) (m p : ℕ) where
  pub jump_here : (l : Label) → j ≡ Ok (J.Here l) → (x : Walk) → x ≡ landing_walk part fs l.place.row l.is_end → (r : Turned) → r ≡ turned_by fs (Ok (St.On x g)) → r ≡ jumped_to part fs j g m p
  jump_here l e x ex r er = rw (er, ex, e)

  pub jump_away_lem : (l : Label) → j ≡ Ok (J.Away l) → (r : Turned) → r ≡ turned_by fs (Ok (St.Went l g)) → r ≡ jumped_to part fs j g m p
  jump_away_lem l e r er = rw (er, e)

  pub jump_bad : (w : Why) → j ≡ Err w → (r : Turned) → r ≡ refused_at fs g w m p → r ≡ jumped_to part fs j g m p
  jump_bad w e r er = rw (er, e)

module _ (part : List ℕ) (fs : Frames) (m : ℕ) (l : Label) (g : Progress) where
  pub went_here : (part' : List ℕ) → part' ≡ part → l.place.member ≡ m → (x : Walk) → x ≡ landing_walk part' fs l.place.row l.is_end → (r : Turned) → r ≡ turned_by fs (Ok (St.On x g)) → r ≡ went_to part fs m l g
  went_here part' ep e x ex r er = rw (er, ex, ep, eq-eqb l.place.member m e)

  pub went_on : (l.place.member ≡ m → ⊥) → (r : Turned) → r ≡ turned_by fs (Ok (St.Went l g)) → r ≡ went_to part fs m l g
  went_on e r er = rw (er, ne_eqb l.place.member m e)

-- ---- the activities of names
module _ (fs : Frames) (n : ℕ) (b : Bool) (g : Progress) (m p : ℕ) where
  pub activated_good : b ≡ true → (r : Turned) → r ≡ turned_by fs (Ok (St.On (Up n) g)) → r ≡ activated_to fs n b g m p
  activated_good e r er = rw (er, e)

  pub activated_bad : b ≡ false → (r : Turned) → r ≡ refused_at fs g WrongName m p → r ≡ activated_to fs n b g m p
  activated_bad e r er = rw (er, e)
