-- What a step of a cast adds to its punch.
use Rattle.std.specs.Prelude.{◌≡◌, ℕ, Bool, List, ◌++◌}

-- From the punch p to the punch q bits were added at the end; its capacity and its memory remain.
pub record Adds {X : Type 0} (written : X → List Bool) (room home : X → ℕ) (p q : X) (bits : List Bool) : Type 0 where
  pub bits_are : written q ≡ written p ++ bits
  pub room_is : room q ≡ room p
  pub home_is : home q ≡ home p
