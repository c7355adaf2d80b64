-- What is declared adds names without a value, and changes nothing but the tables.
-- Assumes nothing.
use mathlib.Core.Path.{◌≡◌, refl, sym, ap, ◌∙◌}
use mathlib.Core.List.{List, [], ◌∷◌, ◌++◌, append_assoc, append-nil}
use Prim.Native.Nat.{ℕ, ◌+◌}
use native.Mathlib.Omega.{arith}
use lib.ListN.{length-append, replicate, replicate-append-replicate}
use Rattle.definition.specs.Program as P
use Rattle.definition.specs.World as W
use Rattle.definition.specs.World.{World, Denotation, Identifier, address_in}
use Rattle.definition.specs.Names as N
use Rattle.definition.proofs.Choices.{when_has}
use Rattle.showing.specs.Worlds.{Grown}

grown_self : (w : World) → Grown w w
grown_self w = record { tables = refl; more = 0; names = omega arith; values = sym (append-nil w.values) }

grown_then : (w u v : World) → Grown w u → Grown u v → Grown w v
grown_then w u v h i = record {
  tables = i.tables ∙ ap (λ (z : World). W.with_tables v.identifiers v.denotations v.values v.activities z) h.tables;
  more = h.more + i.more;
  names = omega (arith, h.names, i.names);
  values = i.values ∙ ap (λ (l : List W.Cell). l ++ replicate i.more W.no_value) h.values ∙ append_assoc w.values (replicate h.more W.no_value) (replicate i.more W.no_value)
      ∙ ap (λ (l : List W.Cell). w.values ++ l) (replicate-append-replicate h.more i.more W.no_value);
}

grown_add : (i : Identifier) (d : Denotation) (w : World) → Grown w (N.add_name i d w)
grown_add i d w = record { tables = refl; more = 1; names = length-append w.identifiers (i ∷ []); values = refl }

grown_set : (a : ℕ) (d : Denotation) (w : World) → Grown w (N.set_denotation a d w)
grown_set a d w = record { tables = refl; more = 0; names = omega arith; values = sym (append-nil w.values) }

-- ---- one declaration after the other
abbrev pub AllGrown : World → N.Declaring → Type 0
AllGrown w (N.fine v) = Grown w v
AllGrown w (N.second p) = Unit {0}

joint_grown : (a : ℕ) (i : Identifier) (d : Denotation) (p : ℕ) (w : World) (J : N.Joint) → N.joint_of (W.denotation a w) d ≡ J → AllGrown w (N.declared_at (W.address a) i d p w)
joint_grown a i d p w (N.joint e) q = rw q (grown_set a e w)
joint_grown a i d p w N.twice q = rw q tt

declared_grown : (x : W.Address) (i : Identifier) (d : Denotation) (p : ℕ) (w : World) → AllGrown w (N.declared_at x i d p w)
declared_grown W.unknown i d p w = grown_add i d w
declared_grown (W.address a) i d p w = joint_grown a i d p w (N.joint_of (W.denotation a w) d) refl

all_then : (w u : World) (x : N.Declaring) → Grown w u → AllGrown u x → AllGrown w x
all_then w u (N.fine v) h i = grown_then w u v h i
all_then w u (N.second p) h i = tt

onward_grown : (w : World) (x : N.Declaring) (f : World → N.Declaring) → AllGrown w x → ((u : World) → AllGrown u (f u)) → AllGrown w (N.onward x f)
onward_grown w (N.fine u) f h g = all_then w u (f u) h (g u)
onward_grown w (N.second p) f h g = tt

one_grown : (y : N.New) (i : Identifier) (ps : List Identifier) (p : ℕ) (w : World) (f : List Identifier → World → N.Declaring) → ((qs : List Identifier) (u : World) → AllGrown u (f qs u)) → AllGrown w (N.declare_one y i ps p w f)
one_grown (N.new d) i ps p w f g =
    let at : W.Address = address_in i.spelling i.owner 0 w.identifiers in
    onward_grown w (N.declared_at at i d p w) (f ps) (declared_grown at i d p w) (g ps)
one_grown N.listing i ps p w f g = when_has (AllGrown w) (N.is_listed i ps) (λ _. N.second p) (λ _. f (i ∷ ps) w) (λ _. tt) (λ _. g (i ∷ ps) w)

pub declare_grown : (m : ℕ) (ps : List Identifier) (ds : List P.Declared) (w : World) → AllGrown w (N.declare_all m ps ds w)
unfolding N.declare_all
declare_grown m ps [] w = grown_self w
declare_grown m ps (d ∷ ds) w = one_grown (N.new_of m d.meaning) (N.identifier_of m d) ps d.place w (λ qs u. N.declare_all m qs ds u) (λ qs u. declare_grown m qs ds u)
