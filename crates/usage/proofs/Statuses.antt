-- The claim on exit statuses.
use Rattle.std.specs.Prelude.{◌≡◌}
use Rattle.common.specs.Logic.{sym, subst, refl, ℕ}
use Rattle.common.specs.Lists.{is_one_of}
use Rattle.usage.specs.Status.{status_number, IsStatus, StatusClaim}
use Rattle.usage.specs.declared.status.Status.{Status}
use Rattle.usage.specs.declared.status.Status.TheVariants.{Done, Refused, Trouble, Lost, Wrong}

is-status : (s : Status) → IsStatus (status_number s)
unfolding status_number is_one_of
is-status Done = refl
is-status Refused = refl
is-status Trouble = refl
is-status Lost = refl
is-status Wrong = refl

pub status-claim : StatusClaim
unfolding status_number is_one_of
status-claim = record { is-status = is-status; own = refl; no_other = refl }

pub answered : {n : ℕ} (s : Status) → n ≡ status_number s → IsStatus n
answered s e = subst IsStatus (sym e) (is-status s)
