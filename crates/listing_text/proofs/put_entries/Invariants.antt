use Rattle.listing_text.proofs.Lines.{EntriesPut}
use Rattle.listing_text.proofs.put_entries.Given as goal

abbrev pub invariant-loop-i : goal.invariant-loop-i
invariant-loop-i l = EntriesPut l.list l.count l.initial.out l.out l.i
