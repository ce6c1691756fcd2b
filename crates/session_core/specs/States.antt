-- What holds in every state that a script leads to: numbers are within their limits.
use Rattle.std.specs.Prelude.{◌≡◌, ℕ, ◌≤◌, List, length, fold, None, IfSome}
use Rattle.std.specs.List.{AllByRecursion}
use Rattle.grid_core.specs.Profile.{Sizes}
use Rattle.version_core.specs.History.{live}
use Rattle.book_core.specs.Book.{most_commits}
use Rattle.book_core.specs.Commit.{passed_by}
use Rattle.script_read.specs.declared.command.Command.{Command}
use Rattle.session_core.specs.Machine.{Session, State, editors, start}
use Rattle.session_core.specs.Limits.{most_serials}
use Rattle.session_core.specs.Step.{step}

-- a session beside a history of n changes: it holds one of the versions up to n, and what is prepared
-- has one of them as its base
pub record IsSession (n : ℕ) (s : Session) : Type 0 where
  pub held : s.held ≤ n
  pub based : IfSome s.prepared (λ x. x.base ≤ n)
  pub serial : s.serial ≤ most_serials

-- there is a session for each editor, and neither the history nor the live list after it passes a
-- limit
pub record IsState (pr : Sizes) (st : State) : Type 0 where
  pub all : length st.sessions ≡ editors
  pub sessions : AllByRecursion (IsSession (length st.history)) st.sessions
  pub few : length st.history ≤ most_commits
  pub room : passed_by pr (live st.history) ≡ None

-- the state after commands, one after the other
abbrev pub after_commands : Sizes → State → List Command → State
after_commands pr st cs = fold (λ us c. (step pr us c).0) st cs

-- commands lead from the start to states alone
abbrev pub CommandsLeadToStates : Sizes → Type 0
CommandsLeadToStates pr = (cs : List Command) → IsState pr (after_commands pr start cs)
