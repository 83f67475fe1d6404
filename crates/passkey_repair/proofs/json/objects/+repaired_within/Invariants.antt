use Rattle.std.proofs.Common.{length}
use Rattle.passkey_repair.proofs.json.objects.+repaired_within.Given as goal

abbrev pub decreases-repaired_within : goal.decreases-repaired_within
decreases-repaired_within l = length l.within.now
