pub mod NetOf
pub mod PortFaults
