-- A line that is a command asks for something that is served: what a line's fields ask for is looked through a test of
-- that, before anything comes of it.
use Rattle.std.proofs.Common.{◌≡◌, ℕ, Bool, true, false, nat_lt, List, [], ◌∷◌, length, Option, Some, None, option_map, option_and_then, if◌then◌else◌, refl, ◌∙◌, sym, subst}
use Rattle.script_read.specs.Command.{is_served, served, IsFair}
use Rattle.script_read.specs.Lines.{is_comment, command_from, line_from, line_of, IsFairLine}
use Rattle.script_read.specs.declared.command.Act.{Act}
use Rattle.script_read.specs.declared.command.Command.{Command}
use Rattle.script_read.specs.declared.line.Line.{Line}
use Rattle.script_read.specs.declared.line.Line.TheVariants.{Quiet, Order, Bad}

-- the command of the line, if it has one, asks for something that is served
abbrev pub AsksServed : Line → Type 0
AsksServed (Order command) = is_served command.act ≡ true
AsksServed _ = Unit {0}

tested : (b : Bool) (act : Act) → is_served act ≡ b → (editor : Option ℕ)
    → AsksServed (elim (option_and_then (λ e. option_map (λ a. record { editor = e; act = a }) (if b then Some act else None)) editor) [ None ↦ Bad | Some command ↦ Order command ])
tested true act e None = tt
tested true act e (Some editor) = e
tested false act e None = tt
tested false act e (Some editor) = tt

asked : (act : Option Act) (editor : Option ℕ)
    → AsksServed (elim (option_and_then (λ e. option_map (λ a. record { editor = e; act = a }) (option_and_then served act)) editor) [ None ↦ Bad | Some command ↦ Order command ])
asked None None = tt
asked None (Some editor) = tt
asked (Some act) editor = tested (is_served act) act refl editor

from_fields : (first : List ℕ) (further : List (List ℕ))
    → AsksServed (elim (command_from first further) [ None ↦ Bad | Some command ↦ Order command ])
unfolding command_from
from_fields first [] = tt
from_fields first (verb ∷ fields) = asked _ _

unless_comment : (b : Bool) (line : Line) → AsksServed line → AsksServed (if b then Quiet else line)
unless_comment true line h = tt
unless_comment false line h = h

from_line : (fields : List (List ℕ)) → AsksServed (line_from fields)
unfolding line_from
from_line [] = tt
from_line (first ∷ further) = unless_comment (is_comment first) _ (from_fields first further)

unless_long : (b : Bool) (line : Line) → AsksServed line → AsksServed (if b then Bad else line)
unless_long true line h = tt
unless_long false line h = h

pub asks_served : (bytes : List ℕ) → AsksServed (line_of bytes)
unfolding line_of
asks_served bytes = unless_long (nat_lt 4096 (length bytes)) _ (from_line _)

pub order_is_served : (bytes : List ℕ) (line : Line) (command : Command)
    → line ≡ line_of bytes
    → line ≡ Order command
    → is_served command.act ≡ true
order_is_served bytes line command e order = subst AsksServed (sym e ∙ order) (asks_served bytes)

pub order_is_fair : (line : Line) (command : Command) → IsFairLine line → line ≡ Order command → IsFair command
unfolding IsFairLine
order_is_fair line command fair order = subst IsFairLine order fair
