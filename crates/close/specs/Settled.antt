-- All of a close but the grants, as the code makes it.
use Rattle.group.specs.Close.{closed_members, adds, closed_added, closed_liberal}
use Rattle.group.specs.declared.Group.{Group}
use Rattle.close.specs.declared.Settled.{Settled}

abbrev pub settled_by : Group → Settled
settled_by g = record { members = closed_members g; adds = adds g; added = closed_added g; liberal = closed_liberal g }
