-- `Text::push_number` ends: the number gets smaller.
use Rattle.listing.proofs.text.Text.+push_number.Given as goal

abbrev pub decreases-push_number : goal.decreases-push_number
decreases-push_number l = l.number
