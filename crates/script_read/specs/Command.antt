-- Commands: what the fields behind an editor ask for, and which commands are fair.
use Rattle.std.specs.Prelude.{ℕ, ◌≤◌, ◌^◌, Bool, true, false, List, [], ◌∷◌, codes, bytes_eq, if◌then◌else◌, Option, Some, None, option_map, option_and_then}
use Rattle.grid_core.specs.declared.point.Point.{Point}
use Rattle.grid_core.specs.Name.{Label}
use Rattle.grid_core.specs.Vector.{IsWithin}
use Rattle.seg_text.specs.Numbers.{whole_of, name_of}
use Rattle.script_read.specs.declared.command.Act.{Act}
use Rattle.script_read.specs.declared.command.Act.TheVariants.{Take, Insert, Delete, Reads, Commit, Drop, Ask}
use Rattle.script_read.specs.declared.command.Command.{Command}
use Rattle.script_read.specs.declared.command.Query.{Query}
use Rattle.script_read.specs.declared.command.Query.TheVariants.{Locate, Route, Hot, Bundle, Contour, Show}

-- the value, where no field is left
unfoldable pub alone : {A : Type 0} → A → List (List ℕ) → Option A
alone value [] = Some value
alone value _ = None

-- the name, where one field is left
unfoldable pub name_alone : List (List ℕ) → Option Label
name_alone (name ∷ []) = name_of name
name_alone _ = None

-- the point of two whole numbers
unfoldable pub point_of : List ℕ → List ℕ → Option Point
point_of x y =
    option_and_then (λ m. option_map (λ n. record { x = m; y = n }) (whole_of y)) (whole_of x)

-- the two points of four whole numbers
unfoldable pub points_of : List ℕ → List ℕ → List ℕ → List ℕ → Option (Point × Point)
points_of x1 y1 x2 y2 =
    option_and_then (λ a. option_map (λ b. (a, b)) (point_of x2 y2)) (point_of x1 y1)

-- the point, where two fields are left
unfoldable pub point_alone : List (List ℕ) → Option Point
point_alone (x ∷ y ∷ []) = point_of x y
point_alone _ = None

-- the two points, where four fields are left
unfoldable pub points_alone : List (List ℕ) → Option (Point × Point)
points_alone (x1 ∷ y1 ∷ x2 ∷ y2 ∷ []) = points_of x1 y1 x2 y2
points_alone _ = None

-- the query of a verb and the fields behind it
unfoldable pub query_of : List ℕ → List (List ℕ) → Option Query
query_of verb fields =
    if bytes_eq verb (codes "locate") then option_map Locate (point_alone fields)
    else if bytes_eq verb (codes "route") then option_map Route (name_alone fields)
    else if bytes_eq verb (codes "hot") then option_map Hot (point_alone fields)
    else if bytes_eq verb (codes "bundle")
    then option_map (λ ends. Bundle ends.0 ends.1) (points_alone fields)
    else if bytes_eq verb (codes "contour")
    then option_map (λ ends. Contour ends.0 ends.1) (points_alone fields)
    else if bytes_eq verb (codes "show") then alone Show fields
    else None

-- the act of a verb and the fields behind it
unfoldable pub act_of : List ℕ → List (List ℕ) → Option Act
act_of verb fields =
    if bytes_eq verb (codes "take") then alone Take fields
    else if bytes_eq verb (codes "insert")
    then option_map (λ ends. Insert ends.0 ends.1) (points_alone fields)
    else if bytes_eq verb (codes "delete") then option_map Delete (name_alone fields)
    else if bytes_eq verb (codes "reads") then alone Reads fields
    else if bytes_eq verb (codes "commit") then alone Commit fields
    else if bytes_eq verb (codes "drop") then alone Drop fields
    else option_map Ask (query_of verb fields)

-- the queries that are served: so far `show` alone
abbrev pub serves_query : Query → Bool
serves_query (Locate at) = false
serves_query (Route name) = false
serves_query (Hot at) = false
serves_query (Bundle a b) = false
serves_query (Contour a b) = false
serves_query Show = true

-- the acts that are served: a line that asks for any other is bad
abbrev pub is_served : Act → Bool
is_served (Ask query) = serves_query query
is_served _ = true

-- the act, where it is served
abbrev pub served : Act → Option Act
served act = if is_served act then Some act else None

-- a query point, in 1/256 of a pixel, is at most 2^34 in size; every other query is fair
abbrev pub IsFairQuery : Query → Type 0
IsFairQuery (Locate at) = IsWithin (2 ^ 34) at
IsFairQuery _ = Unit {0}

-- the query, if the act is one, is fair
unfoldable pub IsFairAct : Act → Type 0
IsFairAct (Ask query) = IsFairQuery query
IsFairAct _ = Unit {0}

-- the editor is one of 1 to 64, and the query, if the command has one, is fair
pub record IsFair (command : Command) : Type 0 where
  pub some_editor : 1 ≤ command.editor
  pub last_editor : command.editor ≤ 64
  pub fair : IsFairAct command.act
