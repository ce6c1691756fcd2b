-- The cross product of two directions, kept as the two products whose difference it is.
use Rattle.std.specs.Prelude.{ℤ, ◌-ℤ◌}
use Rattle.rat_cross.specs.declared.cross_product.CrossProduct.{CrossProduct}

-- the difference of the two products
abbrev pub product_value : CrossProduct → ℤ
product_value c = c.plus -ℤ c.minus
