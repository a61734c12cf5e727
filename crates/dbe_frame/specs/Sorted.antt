-- Lists in an order. Elements of which neither is below the other keep their order.
use Rattle.std.specs.Prelude.{Bool, List, [], ◌∷◌, if◌then◌else◌}

-- an element, before the first one that is not below it
abbrev pub insert_by : {X : Type 0} → (X → X → Bool) → X → List X → List X
insert_by below x [] = x ∷ []
insert_by below x (y ∷ ys) = if below y x then y ∷ insert_by below x ys else x ∷ y ∷ ys

-- a list in its order
unfoldable pub in_order : {X : Type 0} → (X → X → Bool) → List X → List X
in_order below [] = []
in_order below (x ∷ xs) = insert_by below x (in_order below xs)
