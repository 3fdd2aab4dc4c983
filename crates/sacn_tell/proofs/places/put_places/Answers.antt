use Rattle.sacn_tell.proofs.PlaceDigits.{places_are}
use Rattle.sacn_tell.proofs.places.put_places.Goals as goal

pub returns-clause-written : goal.returns-clause-written
returns-clause-written c = places_are c.args.room.now c.args.rest c.told-room c.requires
