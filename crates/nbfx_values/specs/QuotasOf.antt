-- The numbers that quotas hold.
use Rattle.nbfx_values.specs.{declared.limits.Quotas.Quotas, Limits.Limits, Limits.limits}

abbrev pub limits_of : Quotas → Limits
limits_of q = limits q.payload q.depth q.dictionary q.content q.via q.session
