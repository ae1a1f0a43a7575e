use Rattle.listing_text.proofs.Lines.{put-entry-of}
use Rattle.listing_text.proofs.put_entry.Goals as goal

pub returns-clause-put : goal.returns-clause-put
returns-clause-put c =
    put-entry-of _ _ c.address.ensures c.address-2.ensures c.put_addresses.ensures c.put_decision.ensures.put
